-- Fields that a written record can hold: what is written of them reads back.
use Rattle.std.specs.Prelude.{ℕ, ◌+◌, ◌/◌, ◌^◌, ◌≤◌, ◌<◌, ◌≡◌, List, [], ◌∷◌, length}
use Rattle.skeleton.specs.File.{Field}
use Rattle.skeleton.specs.Emit.{size, length_of}

-- four bytes, the first of which is not 1E (30), which would end the directory
abbrev pub TagFits : ℕ → Type 0
TagFits t = (t < 2 ^ 32) × (t / 16777216 ≡ 30 → ⊥)

-- the tags of fields are such
abbrev pub TagsFit : List Field → Type 0
TagsFit [] = Unit {0}
TagsFit (f ∷ fs) = TagFits f.tag × TagsFit fs

-- records that have fields, and whose tags are such
abbrev pub AllTagged : List (List Field) → Type 0
AllTagged [] = Unit {0}
AllTagged (fs ∷ rs) = (0 < length fs) × TagsFit fs × AllTagged rs

-- fields without gaps, the first of which is at pos: a digits hold their lengths, b digits their positions
abbrev pub PlacesFit : ℕ → ℕ → ℕ → List Field → Type 0
PlacesFit a b pos [] = Unit {0}
PlacesFit a b pos (f ∷ fs) = (size f < 10 ^ a) × (pos < 10 ^ b) × PlacesFit a b (pos + size f) fs

-- the widths of a field length and of a field position are digits but 0
pub record Widths (a b : ℕ) : Type 0 where
  pub a_some : 1 ≤ a
  pub a_digit : a ≤ 9
  pub b_some : 1 ≤ b
  pub b_digit : b ≤ 9

-- the fields of a record that can be written with these widths
pub record Writable (a b : ℕ) (fs : List Field) : Type 0 where
  pub some : 0 < length fs
  pub tags : TagsFit fs
  pub places : PlacesFit a b 0 fs
  pub short : length_of a b fs < 100000

-- the records of a file that can be written with these widths
abbrev pub AllWritable : ℕ → ℕ → List (List Field) → Type 0
AllWritable a b [] = Unit {0}
AllWritable a b (fs ∷ rs) = Writable a b fs × AllWritable a b rs
