-- The fields of the record that the workspace holds, from the bytes that they are copied from.
use Rattle.std.specs.Prelude.{ℕ, ◌+◌, ◌*◌, ◌≤◌, ◌<◌, ◌≡◌, Bool, true, false, List, [], ◌∷◌, ◌++◌, length, eqb}
use Rattle.base.specs.Choice.{pick}
use Rattle.memory.specs.Digits.{little_endian}
use Rattle.memory.specs.Put.{part}
use Rattle.memory.specs.Wrote.{Wrote}
use Rattle.skeleton.specs.File.{Field}
use Rattle.skeleton.specs.Emit.{sizes, entries, emit}
use Rattle.forest.specs.Forest.{Forest}
use Rattle.forest.specs.Flat.{flat}
use Rattle.rules.specs.Tags.{FOID, ATTR, SPAS}
use Rattle.rules.specs.Kind.{rcnm, tag_of, coded}
use Rattle.rules.specs.Written.{field_as, list_field, field_width, coord_tag, tree_bytes, written_length}
use Rattle.items.specs.Items.{its}
use Rattle.cells.specs.Cells.{bodies_of}
use Rattle.numbering.specs.Tuples.{Sized}
use Rattle.version.specs.Areas.{list_area, inas_area, spas_area}
use Rattle.version.specs.Held.{foid_bodies}
use Rattle.version.specs.declared.Version.{Version}
use Rattle.writing.specs.Found.{Summed}
use Rattle.writing.specs.declared.measuring.Sum.{Sum}
use Rattle.emission.specs.Bodies.{joined, inas_fields}
use Rattle.emission.specs.declared.measuring.Sizes.{Sizes}

-- ---- the fields

-- the code, where the kind has one
unfoldable pub code_part : Bool → ℕ → List ℕ
code_part true n = little_endian 2 n
code_part false n = []

-- the identifier: RCNM, RCID, the code, RVER, RUIN 1
unfoldable pub ident_part : Version → List ℕ
ident_part v =
    (rcnm v.kind ∷ []) ++ little_endian 4 v.rcid ++ code_part (coded v.kind) v.code ++ little_endian 2 v.rver ++ (1 ∷ [])

-- the eight bytes of a FOID, or none
unfoldable pub foid_part : List ℕ → List ℕ → Version → List ℕ
foid_part d u v = joined (foid_bodies d u v)

-- what follows the attributes, from the cells of the INAS fields, and the bodies c of the coordinates, s of the spatial associations
unfoldable pub last_fields : List ℕ → List ℕ → List ℕ → Version → List ℕ → List ℕ → List Field
last_fields d u inas v c s = inas_fields (bodies_of d u inas v.inas) ++ list_field (coord_tag v.kind) c ++ list_field SPAS s

-- all fields, where t is the body of the attributes
unfoldable pub version_fields : List ℕ → List ℕ → List ℕ → Version → List ℕ → List ℕ → List ℕ → List Field
version_fields d u inas v t c s = (field_as (tag_of v.kind) (ident_part v) ∷ []) ++ list_field FOID (foid_part d u v) ++ list_field ATTR t ++ last_fields d u inas v c s

-- ---- their sizes

-- the bytes of the field of a list of n bytes, its 1E included
unfoldable pub list_size : ℕ → ℕ
list_size n = pick (eqb n 0) 0 (n + 1)

-- one field, or none
unfoldable pub list_count : ℕ → ℕ
list_count n = pick (eqb n 0) 0 1

-- the bytes of an identifier, with a code or without
unfoldable pub ident_size : Bool → ℕ
ident_size true = 10
ident_size false = 8

-- the bytes of a FOID, or none
unfoldable pub foid_size : ℕ → ℕ
foid_size n = pick (eqb n 0) 0 8

-- the bytes of the fields that follow the attributes, where those of the INAS fields are given
unfoldable pub last_size : Version → ℕ → ℕ
last_size v inas = inas + list_size (8 * v.coord) + list_size (15 * v.spas)

-- how many fields follow the attributes
unfoldable pub last_count : Version → ℕ
last_count v = v.inas + list_count (8 * v.coord) + list_count (15 * v.spas)

-- all fields counted
unfoldable pub total : Version → Sizes → Sum
total v m =
    record {
      fields = 1 + list_count (foid_size v.foids) + list_count m.attr + last_count v;
      bytes = ident_size (coded v.kind) + 1 + list_size (foid_size v.foids) + list_size m.attr + last_size v m.inas;
    }

-- the entry of a list of n bytes, at pos, was written from `at` on over what was d and is e; p is the index after it
pub record ListEntry (tag n pos at : ℕ) (d : List ℕ) (p : ℕ) (e : List ℕ) : Type 0 where
  pub next : p ≡ at + 14 * list_count n
  pub is : (b : List ℕ) → length b ≡ n → Wrote at (entries field_width field_width pos (list_field tag b)) d p e

-- ---- what the writer stands on

-- there is room in the workspace for what it holds, and what is copied stands where it is said to stand
pub record Rooms (d u w : List ℕ) (v : Version) : Type 0 where
  pub work : 400000 ≤ length w
  pub old : length d ≤ 16777216
  pub new : length u ≤ 16777216
  pub attr_room : 8 * v.attr ≤ 200000
  pub inas_room : 7 * v.inas ≤ 92000
  pub coord_room : 8 * v.coord ≤ 200000
  pub spas_room : 7 * v.spas ≤ 94000
  pub foid_long : length (foid_part d u v) ≡ foid_size v.foids
  pub spas_long : length (joined (bodies_of d u (spas_area w) v.spas)) ≡ 15 * v.spas

-- so few that all sizes are words
pub record Few (v : Version) : Type 0 where
  pub inas : v.inas ≤ 100000
  pub coord : v.coord ≤ 100000
  pub spas : v.spas ≤ 100000

-- the sizes that a version keeps
abbrev pub sizes_of : Version → Sizes
sizes_of v = record { attr = v.attrbytes; inas = v.inasbytes }

-- m is the bytes of the attributes' tuples, and those of the INAS fields, the 1E of each included
pub record Measured (d u w : List ℕ) (v : Version) (m : Sizes) : Type 0 where
  pub attr_is : Sized d u (list_area w) v.attr m.attr
  pub inas_is : m.inas ≡ sizes (inas_fields (bodies_of d u (inas_area w) v.inas))
  pub inas_small : m.inas ≤ 220500000000

-- what the directory stands on
pub record Indexed (d u inas : List ℕ) (v : Version) (m : Sizes) : Type 0 where
  pub few : Few v
  pub foid_long : length (foid_part d u v) ≡ foid_size v.foids
  pub attr_small : m.attr ≤ 1000000000000
  pub inas_short : length inas ≤ 400000
  pub inas_room : 7 * v.inas ≤ length inas
  pub inas_is : m.inas ≡ sizes (inas_fields (bodies_of d u inas v.inas))
  pub inas_small : m.inas ≤ 1000000000000

-- what the coordinates and the spatial associations stand on
pub record Placed (d u list spas : List ℕ) (v : Version) : Type 0 where
  pub coord_room : 8 * v.coord ≤ length list
  pub spas_room : 7 * v.spas ≤ length spas
  pub spas_long : length (joined (bodies_of d u spas v.spas)) ≡ 15 * v.spas

-- what the attributes stand on
pub record Listed (d u list : List ℕ) (v : Version) (m : Sizes) : Type 0 where
  pub old : length d ≤ 16777216
  pub new : length u ≤ 16777216
  pub short : length list < 524288
  pub attr_room : 8 * v.attr ≤ length list
  pub attr_is : Sized d u list v.attr m.attr

-- what the writer of a record stands on, where so many bytes of `out` are there
abbrev pub Writable : List ℕ → List ℕ → List ℕ → List ℕ → List ℕ → Version → Sizes → ℕ → ℕ → Type 0
Writable d u list inas spas v m at room =
    (Indexed d u inas v m × Placed d u list spas v × Listed d u list v m)
    × (((total v m).fields ≤ 16777216) × ((total v m).bytes ≤ 281474993487872) × (at + 25 + 14 * (total v m).fields + (total v m).bytes ≤ room))

-- the record was written from `at` on over what was o and is e; n is the index after it
abbrev pub Recorded : List ℕ → List ℕ → List ℕ → List ℕ → List ℕ → Version → Sizes → ℕ → List ℕ → ℕ → List ℕ → Type 0
Recorded d u list inas spas v m at o n e =
    (f : Forest) → its d u list 0 v.attr ≡ flat 0 f
    → let fs = version_fields d u inas v (tree_bytes f) (part 0 (8 * v.coord) list) (joined (bodies_of d u spas v.spas)) in
    Summed fs (total v m) → (n ≡ at + written_length fs) × Wrote at (emit field_width field_width false fs) o n e
