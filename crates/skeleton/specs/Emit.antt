-- A record as it is written: leader, directory, fields in order; a and b, the widths of a field length and of a field position.
use Rattle.std.specs.Prelude.{ℕ, ◌+◌, ◌*◌, ◌/◌, ◌%◌, List, [], ◌∷◌, ◌++◌, Bool, true, false, length}
use Rattle.base.specs.Text.{ascii}
use Rattle.skeleton.specs.Digits.{in_digits}
use Rattle.skeleton.specs.File.{Field}

-- the four bytes of a tag
abbrev pub tag_bytes : ℕ → List ℕ
tag_bytes t = t / 16777216 % 256 ∷ t / 65536 % 256 ∷ t / 256 % 256 ∷ t % 256 ∷ []

-- the bytes of a field, its 1E included
abbrev pub size : Field → ℕ
size f = length f.body + 1

-- the bytes of all fields
unfoldable pub sizes : List Field → ℕ
sizes [] = 0
sizes (f ∷ fs) = size f + sizes fs

-- the base address: the offset after the leader, the entries and the 1E that ends them
abbrev pub base_of : ℕ → ℕ → List Field → ℕ
base_of a b fs = 24 + (4 + a + b) * length fs + 1

-- how long the record is
abbrev pub length_of : ℕ → ℕ → List Field → ℕ
length_of a b fs = base_of a b fs + sizes fs

-- bytes 5 to 11 of the leader, of the first record and of the others
abbrev pub middle : Bool → List ℕ
middle true = ascii "3LE1 09"
middle false = ascii " D     "

-- bytes 17 to 19, of the first record and of the others
abbrev pub marks : Bool → List ℕ
marks true = ascii " ! "
marks false = ascii "   "

-- the leader of a record of so many bytes
unfoldable pub leading : ℕ → ℕ → Bool → ℕ → ℕ → List ℕ
leading a b first len base =
    in_digits 5 len ++ (middle first ++ (in_digits 5 base ++ (marks first ++ (in_digits 1 a ++ (in_digits 1 b ++ ascii "04")))))

-- the directory's entry of a field at pos
abbrev pub entry : ℕ → ℕ → Field → ℕ → List ℕ
entry a b f pos = tag_bytes f.tag ++ (in_digits a (size f) ++ in_digits b pos)

-- the entries of fields without gaps, the first of which is at pos
unfoldable pub entries : ℕ → ℕ → ℕ → List Field → List ℕ
entries a b pos [] = []
entries a b pos (f ∷ fs) = entry a b f pos ++ entries a b (pos + size f) fs

-- the bodies, each with its 1E
unfoldable pub contents : List Field → List ℕ
contents [] = []
contents (f ∷ fs) = f.body ++ (30 ∷ contents fs)

-- the record, the first of its file or not
unfoldable pub emit : ℕ → ℕ → Bool → List Field → List ℕ
emit a b first fs = leading a b first (length_of a b fs) (base_of a b fs) ++ (entries a b 0 fs ++ (30 ∷ contents fs))

-- records one after the other: a file, or its records after the first
unfoldable pub emits : ℕ → ℕ → Bool → List (List Field) → List ℕ
emits a b first [] = []
emits a b first (r ∷ rs) = emit a b first r ++ emits a b false rs
