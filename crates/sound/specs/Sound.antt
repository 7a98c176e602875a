-- What is true of every dataset that is read from bytes, and of every result of an update: each value can be written by its format, trees are plain,
-- keys stand once, each kind has its own parts, and every record that is named stands.
use Rattle.std.specs.Prelude.{ℕ, ◌<◌, ◌≡◌, Bool, true, false, List, [], ◌∷◌, ◌++◌, length, take, eqb}
use Rattle.base.specs.Choice.{pick}
use Rattle.base.specs.Check.{pass}
use Rattle.base.specs.Lists.{each, Each}
use Rattle.base.specs.Keys.{among}
use Rattle.skeleton.specs.File.{Field}
use Rattle.skeleton.specs.Writable.{TagsFit}
use Rattle.fields.specs.Table.{code, head_of, tuple_of}
use Rattle.fields.specs.Values.{Val, num, txt}
use Rattle.fields.specs.Valid.{Bytes, passes, pass_all}
use Rattle.fields.specs.declared.Format.TheVariants.{Foid, InasNew, SpasNew, C2il}
use Rattle.fields.specs.declared.Sub.TheVariants.{Text}
use Rattle.forest.specs.Forest.{Forest, nil, tree, Plain}
use Rattle.rules.specs.Tags.{CSID, ATTR, SPAS}
use Rattle.rules.specs.ByTag.{first_tag}
use Rattle.rules.specs.Kind.{Row, rcnm, coded, rows_of}
use Rattle.rules.specs.Coordinates.{Coord}
use Rattle.rules.specs.Content.{ident_format}
use Rattle.rules.specs.Record.{Rec, Parts, Assoc, Spatial, key_of}
use Rattle.rules.specs.General.{general_record}
use Rattle.rules.specs.Modify.{assoc_key, spatial_key}
use Rattle.rules.specs.Written.{Dataset, nums, coord_vals, spatial_vals}
use Rattle.rules.specs.declared.Kind.{Kind}
use Rattle.rules.specs.declared.Kind.TheVariants.{Info, Point, Multi, Feature}
use Rattle.rules.specs.declared.Mode.TheVariants.{InDataset}
use Rattle.updates.specs.Sorted.{Sorted}

-- ---- attributes

-- a value that can be written: bytes without separators
pub record SoundText (v : List ℕ) : Type 0 where
  pub taken : passes Text (txt v) ≡ true
  pub bytes : Bytes v

-- every code and every value can be written
pub data Ranged : Forest → Type 0 where
  r_nil : Ranged nil
  r_tree : {c : ℕ} {v : List ℕ} {kids rest : Forest} → passes code (num c) ≡ true → SoundText v → Ranged kids → Ranged rest → Ranged (tree c v kids rest)

-- a tree of such entries, none of which has a value beside a child
pub record Attributes (f : Forest) : Type 0 where
  pub plain : Plain f
  pub ranged : Ranged f

-- ---- associations and coordinates

-- no key is among those seen, or stands twice
unfoldable pub Apart : List (List ℕ) → List (List ℕ) → Type 0
Apart seen [] = Unit {0}
Apart seen (k ∷ ks) = (among k seen ≡ false) × Apart (k ∷ seen) ks

-- an association whose key and attributes can be written
pub record SoundAssoc (a : Assoc) : Type 0 where
  pub key : pass_all (head_of InasNew) (nums (a.key ++ (1 ∷ []))) ≡ true
  pub tree : Attributes a.attributes

-- a coordinate tuple that can be written
abbrev pub SoundCoord : Coord → Type 0
SoundCoord c = pass_all (tuple_of C2il) (coord_vals c) ≡ true

-- a spatial association that can be written
abbrev pub SoundSpatial : Spatial → Type 0
SoundSpatial s = pass_all (tuple_of SpasNew) (spatial_vals s) ≡ true

-- ---- the parts of a record

-- there is a row with tag t
unfoldable pub rowed : ℕ → List Row → Bool
rowed t [] = false
rowed t (r ∷ rs) = pick (eqb r.tag t) true (rowed t rs)

-- a point has one coordinate tuple, a multi point any number, the others none
unfoldable pub Counted : Kind → List Coord → Type 0
Counted Info cs = cs ≡ []
Counted Point cs = length cs ≡ 1
Counted Multi cs = Unit {0}
Counted Feature cs = cs ≡ []

-- attributes that a record of kind k can have
pub record SoundTree (k : Kind) (f : Forest) : Type 0 where
  pub tree : Attributes f
  pub lacking : rowed ATTR (rows_of k) ≡ false → f ≡ nil

-- associations, each key once
pub record SoundAssocs (l : List Assoc) : Type 0 where
  pub all : Each SoundAssoc l
  pub once : Apart [] (each assoc_key l)

-- coordinates that a record of kind k can have
pub record SoundCoords (k : Kind) (cs : List Coord) : Type 0 where
  pub all : Each SoundCoord cs
  pub counted : Counted k cs

-- spatial associations that a record of kind k can have, each key once
pub record SoundSpatials (k : Kind) (ss : List Spatial) : Type 0 where
  pub all : Each SoundSpatial ss
  pub once : Apart [] (each spatial_key ss)
  pub lacking : rowed SPAS (rows_of k) ≡ false → ss ≡ []

-- the parts of a record of kind k
pub record SoundParts (k : Kind) (p : Parts) : Type 0 where
  pub attributes : SoundTree k p.attributes
  pub associations : SoundAssocs p.associations
  pub coordinates : SoundCoords k p.coordinates
  pub spatial : SoundSpatials k p.spatial

-- ---- a record

-- the values of its identifier as it is written
unfoldable pub ident_vals : Rec → List Val
ident_vals r =
    let with_code : List ℕ = rcnm r.kind ∷ r.rcid ∷ r.code ∷ r.rver ∷ 1 ∷ [] in
    let without : List ℕ = rcnm r.kind ∷ r.rcid ∷ r.rver ∷ 1 ∷ [] in
    nums (pick (coded r.kind) with_code without)

-- a feature has a FOID, the others none
unfoldable pub SoundFoid : Kind → List ℕ → Type 0
SoundFoid Info foid = foid ≡ []
SoundFoid Point foid = foid ≡ []
SoundFoid Multi foid = foid ≡ []
SoundFoid Feature foid = pass_all (head_of Foid) (nums foid) ≡ true

-- a record each part of which can be written
pub record SoundRec (r : Rec) : Type 0 where
  pub ident : pass_all (head_of (ident_format true r.kind)) (ident_vals r) ≡ true
  pub code_none : coded r.kind ≡ false → r.code ≡ 0
  pub foid : SoundFoid r.kind r.foid
  pub parts : SoundParts r.kind r.parts

-- every record that it names has one of these keys
pub record Named (keys : List (List ℕ)) (r : Rec) : Type 0 where
  pub associations : Each (λ a. among (take 2 a.key) keys ≡ true) r.parts.associations
  pub spatial : Each (λ s. among (take 2 s.key) keys ≡ true) r.parts.spatial

-- ---- a dataset

-- a record that is carried: it has fields, their tags can be written, and their bodies are bytes
pub record Carried (fs : List Field) : Type 0 where
  pub some : 0 < length fs
  pub tags : TagsFit fs
  pub bodies : Each (λ f. Bytes f.body) fs

-- a sound dataset
pub record Sound (d : Dataset) : Type 0 where
  pub descriptive : Carried d.descriptive
  pub general : Carried d.general
  pub general_stands : general_record InDataset d.general ≡ pass
  pub systems : Carried d.systems
  pub systems_first : eqb (first_tag d.systems) CSID ≡ true
  pub records : Each SoundRec d.records
  pub sorted : Sorted d.records
  pub named : Each (Named (each key_of d.records)) d.records
