-- What loading stands on, and what it does to the version in the workspace.
use Rattle.std.specs.Prelude.{ℕ, ◌+◌, ◌-◌, ◌*◌, ◌%◌, ◌≤◌, ◌≡◌, true, false, List, length, drop}
use Rattle.base.specs.Check.{pass}
use Rattle.base.specs.Lists.{Each}
use Rattle.skeleton.specs.Emit.{size, sizes}
use Rattle.skeleton.specs.File.{Field}
use Rattle.skeleton.specs.Place.{between}
use Rattle.fields.specs.Table.{head_of, tuple_of}
use Rattle.fields.specs.Content.{fill}
use Rattle.fields.specs.Valid.{Bytes}
use Rattle.rules.specs.Kind.{rows_of}
use Rattle.rules.specs.Content.{format_of}
use Rattle.rules.specs.Trees.{tree_stands}
use Rattle.rules.specs.Record.{Rec, Ident}
use Rattle.rules.specs.Written.{field_as}
use Rattle.rules.specs.declared.Kind.{Kind}
use Rattle.sound.specs.Sound.{rowed}
use Rattle.items.specs.Items.{source}
use Rattle.version.specs.Held.{takes_tree, Held}
use Rattle.version.specs.declared.Version.{Version}
use Rattle.loading.specs.Taken.{take_field, take_fields}

-- ---- what it stands on

-- a field behind the identifier of a stored record of kind k: it has a row, its format and its tree
pub record Fits (k : Kind) (f : Field) : Type 0 where
  pub row : rowed f.tag (rows_of k) ≡ true
  pub formed : fill (head_of (format_of true f.tag f.body)) (tuple_of (format_of true f.tag f.body)) f.body ≡ true
  pub treed : tree_stands true f ≡ pass

-- fields of n bytes still fit a record of which the version has been loaded: an INAS takes 11 bytes at least, a coordinate tuple 8, one of SPAS 15,
-- and the INAS fields take those that they are written in
pub record Room (v : Version) (n : ℕ) : Type 0 where
  pub inas : 11 * v.inas + n ≤ 99999
  pub coord : 8 * v.coord + n ≤ 99999
  pub spas : 15 * v.spas + n ≤ 99999
  pub bytes : v.inasbytes + n ≤ 99999

-- the field with tag t from `from` up to `to` of b can be loaded
pub record Loads (b : List ℕ) (t from to : ℕ) (v : Version) (w : List ℕ) : Type 0 where
  pub runs : from ≤ to
  pub inside : to ≤ length b
  pub small : length b ≤ 16777216
  pub bytes : Bytes b
  pub wide : 400000 ≤ length w
  pub fits : Fits v.kind (field_as t (between b from to))
  pub room : Room v (size (field_as t (between b from to)))

-- the coordinate tuples from `from` up to `to` of b can be loaded
pub record LoadsCoords (b : List ℕ) (from to : ℕ) (v : Version) (w : List ℕ) : Type 0 where
  pub runs : from ≤ to
  pub inside : to ≤ length b
  pub even : (to - from) % 8 ≡ 0
  pub room : 8 * v.coord + (to - from) ≤ 99999
  pub wide : 400000 ≤ length w
  pub plain : takes_tree v.kind ≡ false

-- the fields fs of a record can be loaded
pub record LoadsAll (b : List ℕ) (at len : ℕ) (fs : List Field) (v : Version) (w : List ℕ) : Type 0 where
  pub inside : at + len ≤ length b
  pub small : length b ≤ 16777216
  pub bytes : Bytes b
  pub wide : 400000 ≤ length w
  pub fits : Each (Fits v.kind) fs
  pub room : Room v (sizes fs)

-- ---- what it does

-- version v of workspace w has taken the field f of b, which x names, and is version e of workspace o
pub record Took (b : List ℕ) (x : ℕ) (f : Field) (w : List ℕ) (v : Version) (o : List ℕ) (e : Version) : Type 0 where
  pub held : (d u : List ℕ) (r : Rec) → source x d u ≡ b → Held d u w v r → Held d u o e (take_field f r)
  pub room : (n : ℕ) → Room v (size f + n) → Room e n
  pub kind : e.kind ≡ v.kind
  pub others : drop 386000 o ≡ drop 386000 w

-- the same of all these fields
pub record TookAll (b : List ℕ) (x : ℕ) (fs : List Field) (w : List ℕ) (v : Version) (o : List ℕ) (e : Version) : Type 0 where
  pub held : (d u : List ℕ) (r : Rec) → source x d u ≡ b → Held d u w v r → Held d u o e (take_fields fs r)
  pub others : drop 386000 o ≡ drop 386000 w

-- ---- versions

-- a version that is nothing but its identifier
unfoldable pub opened : Kind → Ident → Version
opened k i =
    record {
      kind = k;
      rcid = i.rcid;
      code = i.code;
      rver = i.rver;
      foids = 0;
      foid = 0;
      slice = 0;
      attr = 0;
      inas = 0;
      coord = 0;
      spas = 0;
      attrbytes = 0;
      inasbytes = 0;
    }
