-- A record that the workspace w holds, over the dataset d and the update u.
use Rattle.std.specs.Prelude.{ℕ, ◌+◌, ◌*◌, ◌≤◌, ◌≡◌, Bool, true, false, List, [], ◌∷◌, length, take, eqb}
use Rattle.base.specs.Choice.{pick}
use Rattle.base.specs.Check.{passed, pass}
use Rattle.base.specs.Lists.{each, gather, Each}
use Rattle.skeleton.specs.Place.{between}
use Rattle.fields.specs.Table.{head_of, tuple_of}
use Rattle.fields.specs.Content.{fill}
use Rattle.fields.specs.Valid.{Bytes}
use Rattle.fields.specs.declared.Format.TheVariants.{Foid, InasNew, SpasNew}
use Rattle.forest.specs.Flat.{flat}
use Rattle.rules.specs.Coordinates.{coords_in}
use Rattle.rules.specs.Trees.{inas_tree}
use Rattle.rules.specs.Record.{Rec, Parts, foid_of, assoc_of}
use Rattle.rules.specs.Written.{tree_bytes}
use Rattle.rules.specs.declared.Kind.{Kind}
use Rattle.rules.specs.declared.Kind.TheVariants.{Info, Point, Multi, Feature}
use Rattle.items.specs.Items.{its, source}
use Rattle.cells.specs.Cells.{bodies_of, fields_size, spatial_in}
use Rattle.version.specs.Areas.{list_area, inas_area, spas_area}
use Rattle.version.specs.declared.Version.{Version}

-- an INAS that is inserted: it has its format, and the tree rule holds
pub record RightInas (b : List ℕ) : Type 0 where
  pub bytes : Bytes b
  pub filled : fill (head_of InasNew) (tuple_of InasNew) b ≡ true
  pub tree : passed (inas_tree b) ≡ pass

-- one tuple of a SPAS that is inserted
pub record RightSpas (b : List ℕ) : Type 0 where
  pub bytes : Bytes b
  pub long : length b ≡ 15
  pub filled : fill (head_of SpasNew) (tuple_of SpasNew) b ≡ true

-- a FOID
pub record RightFoid (b : List ℕ) : Type 0 where
  pub bytes : Bytes b
  pub filled : fill (head_of Foid) [] b ≡ true

-- a version with so many items, associations, coordinate tuples and spatial associations, the first two of which are written in x and y bytes
abbrev pub sized : Version → ℕ → ℕ → ℕ → ℕ → ℕ → ℕ → Version
sized v a i c s x y =
    record {
      kind = v.kind;
      rcid = v.rcid;
      code = v.code;
      rver = v.rver;
      foids = v.foids;
      foid = v.foid;
      slice = v.slice;
      attr = a;
      inas = i;
      coord = c;
      spas = s;
      attrbytes = x;
      inasbytes = y;
    }

-- so many items, which are written in x bytes
abbrev pub attr_now : Version → ℕ → ℕ → Version
attr_now v n x = sized v n v.inas v.coord v.spas x v.inasbytes

-- so many associations, which are written in y bytes
abbrev pub inas_now : Version → ℕ → ℕ → Version
inas_now v n y = sized v v.attr n v.coord v.spas v.attrbytes y

-- so many coordinate tuples
abbrev pub coord_now : Version → ℕ → Version
coord_now v n = sized v v.attr v.inas n v.spas v.attrbytes v.inasbytes

-- so many spatial associations
abbrev pub spas_now : Version → ℕ → Version
spas_now v n = sized v v.attr v.inas v.coord n v.attrbytes v.inasbytes

-- the kind has attributes of its own; the others have coordinates
unfoldable pub takes_tree : Kind → Bool
takes_tree Info = true
takes_tree Point = false
takes_tree Multi = false
takes_tree Feature = true

-- the FOID, if there is one
unfoldable pub foid_bodies : List ℕ → List ℕ → Version → List (List ℕ)
foid_bodies d u v = pick (eqb v.foids 0) [] (between (source v.slice d u) v.foid (v.foid + 8) ∷ [])

-- the parts p
pub record HeldParts (d u w : List ℕ) (v : Version) (p : Parts) : Type 0 where
  pub attributes : its d u (list_area w) 0 v.attr ≡ flat 0 p.attributes
  pub associations : p.associations ≡ each assoc_of (bodies_of d u (inas_area w) v.inas)
  pub inas_right : Each RightInas (bodies_of d u (inas_area w) v.inas)
  pub coordinates : p.coordinates ≡ coords_in (take (8 * v.coord) (list_area w))
  pub spatial : p.spatial ≡ each spatial_in (bodies_of d u (spas_area w) v.spas)
  pub spas_right : Each RightSpas (bodies_of d u (spas_area w) v.spas)
  pub attr_room : 8 * v.attr ≤ 200000
  pub inas_room : 7 * v.inas ≤ 92000
  pub coord_room : 8 * v.coord ≤ 200000
  pub spas_room : 7 * v.spas ≤ 94000
  pub attr_sized : v.attrbytes ≡ length (tree_bytes p.attributes)
  pub inas_sized : v.inasbytes ≡ fields_size (bodies_of d u (inas_area w) v.inas)
  pub no_tree : takes_tree v.kind ≡ false → v.attr ≡ 0
  pub no_coord : takes_tree v.kind ≡ true → v.coord ≡ 0

-- the record r
pub record Held (d u w : List ℕ) (v : Version) (r : Rec) : Type 0 where
  pub kind : v.kind ≡ r.kind
  pub rcid : v.rcid ≡ r.rcid
  pub code : v.code ≡ r.code
  pub rver : v.rver ≡ r.rver
  pub foid : r.foid ≡ gather foid_of (foid_bodies d u v)
  pub foid_right : Each RightFoid (foid_bodies d u v)
  pub parts : HeldParts d u w v r.parts
