-- What a modify's fields stand on.
use Rattle.std.specs.Prelude.{ℕ, ◌+◌, ◌*◌, ◌%◌, ◌≤◌, ◌<◌, ◌≡◌, true, false, List, length}
use Rattle.base.specs.Check.{ok, pass, passed}
use Rattle.skeleton.specs.Leader.{good}
use Rattle.skeleton.specs.Emit.{size, sizes}
use Rattle.skeleton.specs.File.{Field}
use Rattle.skeleton.specs.Place.{between, fields_at}
use Rattle.skeleton.specs.Record.{record_at}
use Rattle.skeleton.specs.declared.directory.Shape.{Shape}
use Rattle.fields.specs.Valid.{Has}
use Rattle.fields.specs.declared.Format.TheVariants.{Attr, Spas, Cocc, C2it}
use Rattle.rules.specs.Tags.{ATTR, INAS, SPAS, COCC, C2IT, C2IL}
use Rattle.rules.specs.ByTag.{front}
use Rattle.rules.specs.Grammar.{ruin_byte}
use Rattle.rules.specs.Content.{inas_format}
use Rattle.rules.specs.Trees.{attr_acts, inas_tree}
use Rattle.rules.specs.Record.{update_record}
use Rattle.rules.specs.Written.{field_as}
use Rattle.rules.specs.declared.Kind.{Kind}
use Rattle.coords.specs.Placing.{EvenLists}
use Rattle.version.specs.Held.{takes_tree}
use Rattle.version.specs.declared.Version.{Version}

-- what a field of a modify on a record of kind k has passed, by its tag
pub record Due (k : Kind) (f : Field) : Type 0 where
  pub attr : f.tag ≡ ATTR → Has Attr f.body × (passed (attr_acts f.body) ≡ pass) × (takes_tree k ≡ true)
  pub inas : f.tag ≡ INAS → Has (inas_format false f.body) f.body × (passed (inas_tree f.body) ≡ pass)
  pub cocc : f.tag ≡ COCC → Has Cocc f.body × (takes_tree k ≡ false)
  pub c2it : f.tag ≡ C2IT → Has C2it f.body × (takes_tree k ≡ false)
  pub spas : f.tag ≡ SPAS → Has Spas f.body
  pub even : f.tag ≡ C2IL → length f.body % 8 ≡ 0

-- what a version holds is at most what a written record of 99,999 bytes takes
pub record Small (v : Version) : Type 0 where
  pub attr : 8 * v.attr ≤ 99999
  pub inas : 25 * v.inas ≤ 99999
  pub coord : 8 * v.coord ≤ 99999
  pub spas : 15 * v.spas ≤ 99999
  pub bytes : v.inasbytes ≤ 99999

-- fields of n bytes can still act on a version: an item comes of 8 bytes at least, an INAS takes 11, a tuple of SPAS 15,
-- and the INAS fields take those that they are written in
pub record Rooms (v : Version) (n : ℕ) : Type 0 where
  pub attr : 8 * v.attr + n ≤ 199998
  pub inas : 11 * v.inas + n ≤ 143988
  pub spas : 15 * v.spas + n ≤ 199998
  pub bytes : v.inasbytes + n ≤ 199998

-- the field with tag t from `from` up to `to` of the update u can act on the version v in the workspace w
pub record Ready (u w : List ℕ) (v : Version) (t from to : ℕ) : Type 0 where
  pub runs : from ≤ to
  pub inside : to ≤ length u
  pub small : length u ≤ 16777216
  pub wide : 400000 ≤ length w
  pub due : Due v.kind (field_as t (between u from to))
  pub rooms : Rooms v (size (field_as t (between u from to)))

-- the record of the update whose field it is: there it stands, and its C2IL fields are made of whole tuples
pub record Sending (u : List ℕ) (at len : ℕ) (h : Shape) : Type 0 where
  pub there : record_at u at ≡ good len h
  pub even : EvenLists (fields_at (between u at (at + len)) h 24)

-- the coordinate tuples that the fields fs send can go to the place (x, n) of the version v in the workspace w
pub record Placing (fs : List Field) (x n : ℕ) (w : List ℕ) (v : Version) : Type 0 where
  pub even : EvenLists fs
  pub room : 8 * v.coord + sizes fs ≤ 200000
  pub wide : 400000 ≤ length w
  pub first : 0 < x
  pub index : x < 65536
  pub count : n < 65536
  pub bare : takes_tree v.kind ≡ false

-- the record at `at` of the update is a modify of the version v in the workspace w
pub record Modifies (u : List ℕ) (at len : ℕ) (h : Shape) (v : Version) : Type 0 where
  pub there : record_at u at ≡ good len h
  pub passed : update_record (fields_at (between u at (at + len)) h 24) ≡ ok v.kind
  pub ruin : ruin_byte v.kind (front (fields_at (between u at (at + len)) h 24)) ≡ 3
