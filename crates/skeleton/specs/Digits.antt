-- Decimal numbers in bytes: read from digits, and written as digits.
use Rattle.std.specs.Prelude.{ℕ, zero, suc, ◌+◌, ◌-◌, ◌*◌, ◌/◌, ◌%◌, List, [], ◌∷◌, ◌++◌, Bool, length, take, drop, leb, ltb, Option, Some, None}
use Rattle.base.specs.Choice.{pick, both}
use Rattle.base.specs.Walk.{Step, more, over, walk}

-- ---- read

-- the byte is '0' to '9'
unfoldable pub is_digit : ℕ → Bool
is_digit b = both (leb 48 b) (leb b 57)

-- the number whose digits are acc's and then these bytes
unfoldable pub digits : List ℕ → ℕ → Option ℕ
digits [] acc = Some acc
digits (b ∷ bs) acc = pick (is_digit b) (digits bs (acc * 10 + (b - 48))) None

-- the n bytes from at
abbrev pub window : List ℕ → ℕ → ℕ → List ℕ
window s at n = take n (drop at s)

-- the number whose digits are acc's and then the k bytes from i: the answer of a loop from where it stands
unfoldable pub digits_from : List ℕ → ℕ → ℕ → ℕ → Option ℕ
digits_from s i k acc = digits (window s i k) acc

-- the number that stands in width digits from at
abbrev pub number_at : List ℕ → ℕ → ℕ → Option ℕ
number_at s at width = digits_from s at width 0

-- the number, or 0 where there is none
abbrev pub value_of : Option ℕ → ℕ
value_of (Some n) = n
value_of None = 0

-- ---- written

-- n in w digits
unfoldable pub in_digits : ℕ → ℕ → List ℕ
in_digits zero n = []
in_digits (suc w) n = in_digits w (n / 10) ++ ((n % 10 + 48) ∷ [])

-- a number of more than one digit has one digit more than its tenth
unfoldable pub tenth : ℕ → Step ℕ (Unit {0})
tenth n = pick (ltb n 10) (over 0) (more tt (n / 10))

-- the fewest digits that hold n, at least one
unfoldable pub fewest_digits : ℕ → ℕ
fewest_digits n = suc (length (walk tenth (λ m. m) n).items)

-- n in as few digits as hold it
unfoldable pub in_fewest_digits : ℕ → List ℕ
in_fewest_digits n = in_digits (fewest_digits n) n
