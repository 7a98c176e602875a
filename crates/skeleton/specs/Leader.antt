-- The leader of a record: 24 bytes.
use Rattle.std.specs.Prelude.{ℕ, ◌-◌, List, [], ◌∷◌, Bool, true, false, not, length, get_or, drop, leb, ltb, eqb, Option, Some, None, Result, Ok, Err}
use Rattle.base.specs.Choice.{pick, both}
use Rattle.base.specs.Text.{ascii}
use Rattle.skeleton.specs.Digits.{is_digit, number_at}
use Rattle.skeleton.specs.declared.directory.Shape.{Shape}
use Rattle.skeleton.specs.declared.leader.Head.{Head}
use Rattle.skeleton.specs.declared.leader.Broken.{Broken}
use Rattle.skeleton.specs.declared.leader.Broken.TheVariants.{Cut, Leader, Directory}

-- the number of a refusal
abbrev pub number_of : Broken → ℕ
number_of Cut = 1
number_of Leader = 2
number_of Directory = 3

-- a record of so many bytes, whose directory has this shape
abbrev pub good : ℕ → Shape → Result Head Broken
good len h = Ok (record { len = len; shape = h })

-- the base address, and the widths of a field length and of a field position
abbrev pub shape : ℕ → ℕ → ℕ → Shape
shape base a b = record { base = base; a = a; b = b }

-- x may stand where a template has t: '#' (35) is any digit, '+' (43) a digit but 0, any other byte is itself
unfoldable pub fits_byte : ℕ → ℕ → Bool
fits_byte t x = pick (eqb t 35) (is_digit x) (pick (eqb t 43) (both (leb 49 x) (leb x 57)) (eqb t x))

-- the bytes begin as the template
unfoldable pub shaped : List ℕ → List ℕ → Bool
shaped [] s = true
shaped (t ∷ ts) [] = false
shaped (t ∷ ts) (x ∷ xs) = both (fits_byte t x) (shaped ts xs)

-- the bytes from i on are as the template from i on: the answer of a loop from where it stands
unfoldable pub shaped_from : List ℕ → List ℕ → ℕ → Bool
shaped_from t s i = shaped (drop i t) (drop i s)

-- the leader of the first record, and that of all others
abbrev pub template : Bool → List ℕ
template true = ascii "#####3LE1 09##### ! ++04"
template false = ascii "##### D     #####   ++04"

-- the stated length lies within what is left (else 1): record length, base address, width a of a field length, width b of a field position
abbrev pub within : List ℕ → Option ℕ → Option ℕ → Result Head Broken
within s (Some len) (Some base) = pick (ltb (length s) len) (Err Cut) (good len (shape base (get_or s 20 0 - 48) (get_or s 21 0 - 48)))
within s (Some len) None = Err Leader
within s None base = Err Leader

-- what the numbers of the leader at the front of s say
unfoldable pub stated_of : List ℕ → Result Head Broken
stated_of s = within s (number_at s 0 5) (number_at s 12 5)

-- what the leader at the front of s says, in this order: 1 to 23 bytes are left (1), its bytes (2), its stated length (1)
unfoldable pub leader_of : List ℕ → Bool → Result Head Broken
leader_of s first =
    pick (ltb (length s) 24) (Err Cut)
    (pick (not (shaped (template first) s)) (Err Leader) (stated_of s))
