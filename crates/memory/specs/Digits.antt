-- Numbers as digits: what the writers of numbers write, and the number that it says. Assumes nothing.
use Rattle.std.specs.Prelude.{List, [], ◌∷◌, map, reverse, ℕ, zero, suc, ◌+◌, ◌-◌, ◌*◌, ◌/◌, ◌%◌}

-- the w lowest digits of x in base b, the lowest first
unfoldable pub digits : (b w x : ℕ) → List ℕ
digits b zero x = []
digits b (suc w) x = x % b ∷ digits b w (x / b)

-- the number that digits in base b say, the lowest first
unfoldable pub number : (b : ℕ) (ds : List ℕ) → ℕ
number b [] = 0
number b (d ∷ ds) = d + b * number b ds

-- x in w bytes, the lowest first
unfoldable pub little_endian : (w x : ℕ) → List ℕ
little_endian w x = digits 256 w x

-- the number that bytes say, the lowest first
unfoldable pub from_little_endian : (s : List ℕ) → ℕ
from_little_endian s = number 256 s

-- x in w decimal characters, the highest first; 48 is `0`
unfoldable pub decimal : (w x : ℕ) → List ℕ
decimal w x = map (λ (d : ℕ). 48 + d) (reverse (digits 10 w x))

-- the number that decimal characters say, the highest first
unfoldable pub from_decimal : (s : List ℕ) → ℕ
from_decimal s = number 10 (reverse (map (λ (c : ℕ). c - 48) s))
