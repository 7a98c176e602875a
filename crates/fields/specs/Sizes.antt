-- Which bytes a subfield takes: it stands at the front of some bytes only if it is whole and within its range.
use Rattle.std.specs.Prelude.{ℕ, ◌+◌, Bool, true, List, [], ◌∷◌, length, get_or, drop, leb, ltb, eqb}
use Rattle.std.proofs.Math.Option.{Option, none, some}
use Rattle.base.specs.Choice.{pick, both, either}
use Rattle.fields.specs.Bytes.{le, run}
use Rattle.fields.specs.declared.Sub.{Sub}
use Rattle.fields.specs.declared.Sub.TheVariants.{B11, B12, B14, Among, Raw, Text, Fixed}

-- a value from lo to hi
abbrev pub in_range : ℕ → ℕ → ℕ → Bool
in_range lo hi v = both (leb lo v) (leb v hi)

-- one of four values
abbrev pub in_set : ℕ → ℕ → ℕ → ℕ → ℕ → Bool
in_set p q s t v = either (eqb v p) (either (eqb v q) (either (eqb v s) (eqb v t)))

-- any value
abbrev pub any : ℕ → Bool
any v = true

-- w bytes of a number that passes the test
unfoldable pub num_size : ℕ → (ℕ → Bool) → List ℕ → Option ℕ
num_size w ok l = pick (leb w (length l)) (pick (ok (le w l)) (some w) none) none

-- a text without separators, and the 1F (31) that ends it
unfoldable pub text_size : List ℕ → Option ℕ
text_size l = pick (ltb (run l) (length l)) (pick (eqb (get_or l (run l) 0) 31) (some (run l + 1)) none) none

-- n bytes without separators
unfoldable pub fixed_size : ℕ → List ℕ → Option ℕ
fixed_size n l = pick (leb n (run l)) (some n) none

-- how many bytes of the front a subfield takes, if it stands there
unfoldable pub size : Sub → List ℕ → Option ℕ
size (B11 lo hi) l = num_size 1 (in_range lo hi) l
size (B12 lo hi) l = num_size 2 (in_range lo hi) l
size (B14 lo hi) l = num_size 4 (in_range lo hi) l
size (Among p q s t) l = num_size 1 (in_set p q s t) l
size (Raw n) l = num_size n any l
size Text l = text_size l
size (Fixed n) l = fixed_size n l

-- what f says of the size, or else where there is none
abbrev pub on_size : {A : Type 0} → Option ℕ → A → (ℕ → A) → A
on_size none else f = else
on_size (some n) else f = f n

-- n bytes more
abbrev pub plus : ℕ → Option ℕ → Option ℕ
plus n none = none
plus n (some m) = some (n + m)

-- how many bytes subfields take one after the other, if they all stand
unfoldable pub sizes : List Sub → List ℕ → Option ℕ
sizes [] l = some 0
sizes (d ∷ ds) l = on_size (size d l) none (λ n. plus n (sizes ds (drop n l)))

-- the bytes that were taken, none where a subfield does not stand
abbrev pub amount : Option ℕ → ℕ
amount none = 0
amount (some n) = n
