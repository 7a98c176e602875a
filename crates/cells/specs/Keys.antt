-- The keys of associations as their bytes hold them, and bodies found by key.
use Rattle.std.specs.Prelude.{ℕ, suc, ◌≤◌, ◌≡◌, Bool, true, false, List, [], ◌∷◌, length, drop, ltb, Option, Some, None}
use Rattle.base.specs.Choice.{pick}
use Rattle.base.specs.Keys.{same}
use Rattle.fields.specs.Bytes.{le}
use Rattle.fields.specs.Table.{head_of, tuple_of}
use Rattle.fields.specs.Content.{fill}
use Rattle.fields.specs.declared.Format.TheVariants.{InasNew, SpasNew}

-- ---- keys

-- the key that a body begins with: RRNM and RRID, and, of an INAS, NIAC and NARC
unfoldable pub key_in : Bool → List ℕ → List ℕ
key_in inas b = le 1 b ∷ le 4 (drop 1 b) ∷ pick inas (le 2 (drop 5 b) ∷ le 2 (drop 7 b) ∷ []) []

-- how many bytes the key takes
abbrev pub key_size : Bool → ℕ
key_size true = 9
key_size false = 5

-- how many bodies stand before the first with key k; all of them where none has it
unfoldable pub first_with : (List ℕ → List ℕ) → List ℕ → List (List ℕ) → ℕ
first_with key k [] = 0
first_with key k (b ∷ bs) = pick (same (key b) k) 0 (suc (first_with key k bs))

-- number i, where that is one of n bodies, else none
unfoldable pub found_in : ℕ → ℕ → Option ℕ
found_in n i = pick (ltb i n) (Some i) None

-- ---- what is known of bodies

-- it has this many bytes at least
abbrev pub Long : ℕ → List ℕ → Type 0
Long k b = k ≤ length b

-- it is an INAS of a stored record
abbrev pub InasBody : List ℕ → Type 0
InasBody b = fill (head_of InasNew) (tuple_of InasNew) b ≡ true

-- it is one tuple of a SPAS of a stored record
abbrev pub SpasBody : List ℕ → Type 0
SpasBody b = (length b ≡ 15) × (fill (head_of SpasNew) (tuple_of SpasNew) b ≡ true)
