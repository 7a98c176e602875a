-- The written form of a record and of a dataset.
use Rattle.std.specs.Prelude.{ℕ, ◌+◌, true, List, [], ◌∷◌, ◌++◌, length, ltb}
use Rattle.base.specs.Choice.{pick}
use Rattle.base.specs.Check.{no, fault, Passed, pass}
use Rattle.base.specs.Lists.{each}
use Rattle.skeleton.specs.File.{Field}
use Rattle.skeleton.specs.Emit.{length_of, emits}
use Rattle.fields.specs.Table.{head_of, tuple_of}
use Rattle.fields.specs.Values.{Val, num, txt, puts, put_all}
use Rattle.fields.specs.declared.Format.TheVariants.{Foid, AttrNew, InasNew, SpasNew, C2il}
use Rattle.forest.specs.Forest.{Forest, Tup, tuples_of}
use Rattle.rules.specs.Tags.{FOID, ATTR, INAS, SPAS, C2IT, C2IL}
use Rattle.rules.specs.Kind.{rcnm, tag_of, coded}
use Rattle.rules.specs.Coordinates.{Coord}
use Rattle.rules.specs.Content.{ident_format}
use Rattle.rules.specs.Record.{Rec, Parts, Assoc, Spatial}
use Rattle.rules.specs.declared.Kind.{Kind}
use Rattle.rules.specs.declared.Kind.TheVariants.{Info, Point, Multi, Feature}

-- ---- the fields of a record; every instruction that is written is 1, insert

-- a field with this tag and body
abbrev pub field_as : ℕ → List ℕ → Field
field_as t b = record { tag = t; body = b }

-- an empty list has no field
unfoldable pub list_field : ℕ → List ℕ → List Field
list_field t [] = []
list_field t (x ∷ b) = field_as t (x ∷ b) ∷ []

-- numbers as values
unfoldable pub nums : List ℕ → List Val
nums ns = each (λ n. num n) ns

-- the identifier: RCNM, RCID, the code if the kind has one, RVER, RUIN
unfoldable pub ident_bytes : Rec → List ℕ
ident_bytes r =
    let with_code : List ℕ = rcnm r.kind ∷ r.rcid ∷ r.code ∷ r.rver ∷ 1 ∷ [] in
    let without : List ℕ = rcnm r.kind ∷ r.rcid ∷ r.rver ∷ 1 ∷ [] in
    puts (head_of (ident_format true r.kind)) (nums (pick (coded r.kind) with_code without))

-- a tuple of ATTR or INAS: NATC, ATIX, PAIX, ATIN, ATVL
unfoldable pub tup_vals : Tup → List Val
tup_vals t = num t.natc ∷ num t.atix ∷ num t.paix ∷ num 1 ∷ txt t.atvl ∷ []

-- the tuples of a tree
unfoldable pub tree_bytes : Forest → List ℕ
tree_bytes f = put_all (tuple_of AttrNew) (each tup_vals (tuples_of f))

-- an INAS: its key, IUIN, and its tuples
unfoldable pub assoc_field : Assoc → Field
assoc_field a = field_as INAS (puts (head_of InasNew) (nums (a.key ++ (1 ∷ []))) ++ tree_bytes a.attributes)

-- a coordinate tuple: Y, X
unfoldable pub coord_vals : Coord → List Val
coord_vals c = num c.y ∷ num c.x ∷ []

-- a tuple of SPAS: its key, ORNT, SMIN, SMAX, SAUI
unfoldable pub spatial_vals : Spatial → List Val
spatial_vals s = nums (s.key ++ (s.ornt ∷ s.smin ∷ s.smax ∷ 1 ∷ []))

-- a point's tuple is a C2IT, a multi point's are a C2IL
unfoldable pub coord_tag : Kind → ℕ
coord_tag Info = C2IL
coord_tag Point = C2IT
coord_tag Multi = C2IL
coord_tag Feature = C2IL

-- the parts: ATTR, each INAS, the coordinates in one field, the spatial associations in one field
unfoldable pub part_fields : Kind → Parts → List Field
part_fields k p =
    list_field ATTR (tree_bytes p.attributes)
    ++ (each assoc_field p.associations
    ++ (list_field (coord_tag k) (put_all (tuple_of C2il) (each coord_vals p.coordinates))
    ++ list_field SPAS (put_all (tuple_of SpasNew) (each spatial_vals p.spatial))))

-- the fields of a record, in the order of every kind's grammar
unfoldable pub written_fields : Rec → List Field
written_fields r =
    field_as (tag_of r.kind) (ident_bytes r) ∷ (list_field FOID (puts (head_of Foid) (nums r.foid)) ++ part_fields r.kind r.parts)

-- ---- the house's form: a field length and a field position of five digits each

-- width a of a field length, and width b of a field position
abbrev pub field_width : ℕ
field_width = 5

-- how long a record of these fields is
unfoldable pub written_length : List Field → ℕ
written_length fs = length_of field_width field_width fs

-- a written record is at most 99,999 bytes long, else 12
unfoldable pub number12 : List Field → Passed
number12 fs = pick (ltb 99999 (written_length fs)) (no (fault 12 0 0)) pass

-- ---- a dataset

-- three records whose fields are carried (descriptive, general, the one that begins with CSID), and the records of the four kinds
pub record Dataset : Type 0 where
  pub descriptive : List Field
  pub general : List Field
  pub systems : List Field
  pub records : List Rec

-- the fields of all its records
unfoldable pub written : Dataset → List (List Field)
written d = d.descriptive ∷ d.general ∷ d.systems ∷ each written_fields d.records

-- its bytes
unfoldable pub written_bytes : Dataset → List ℕ
written_bytes d = emits field_width field_width true (written d)

-- its number of records
unfoldable pub count : Dataset → ℕ
count d = 3 + length d.records
