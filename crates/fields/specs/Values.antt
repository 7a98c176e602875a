-- The values of subfields, and their bytes again.
use Rattle.std.specs.Prelude.{ℕ, List, [], ◌∷◌, ◌++◌, get_or, take, drop}
use Rattle.base.specs.Lists.{gather}
use Rattle.fields.specs.Bytes.{le, bytes, run}
use Rattle.fields.specs.Sizes.{size, amount}
use Rattle.fields.specs.declared.Sub.{Sub}
use Rattle.fields.specs.declared.Sub.TheVariants.{B11, B12, B14, Among, Raw, Text, Fixed}

-- a number or a text
pub data Val : Type 0 where
  num : ℕ → Val
  txt : List ℕ → Val

-- ---- read

-- the value of a subfield that stands at the front
unfoldable pub value : Sub → List ℕ → Val
value (B11 lo hi) l = num (le 1 l)
value (B12 lo hi) l = num (le 2 l)
value (B14 lo hi) l = num (le 4 l)
value (Among p q s t) l = num (le 1 l)
value (Raw n) l = num (le n l)
value Text l = txt (take (run l) l)
value (Fixed n) l = txt (take n l)

-- the values of subfields that stand one after the other
unfoldable pub values : List Sub → List ℕ → List Val
values [] l = []
values (d ∷ ds) l = value d l ∷ values ds (drop (amount (size d l)) l)

-- a number; 0 for a text
abbrev pub num_of : Val → ℕ
num_of (num n) = n
num_of (txt t) = 0

-- a text; none for a number
abbrev pub text_of : Val → List ℕ
text_of (num n) = []
text_of (txt t) = t

-- the number that subfield j, from 0, holds
abbrev pub num_at : List Val → ℕ → ℕ
num_at vs j = num_of (get_or vs j (num 0))

-- the text that subfield j, from 0, holds
abbrev pub text_at : List Val → ℕ → List ℕ
text_at vs j = text_of (get_or vs j (num 0))

-- ---- written

-- the bytes of a subfield that is a number
abbrev pub width : Sub → ℕ
width (B11 lo hi) = 1
width (B12 lo hi) = 2
width (B14 lo hi) = 4
width (Among p q s t) = 1
width (Raw n) = n
width Text = 0
width (Fixed n) = 0

-- what ends a subfield
unfoldable pub mark : Sub → List ℕ
mark (B11 lo hi) = []
mark (B12 lo hi) = []
mark (B14 lo hi) = []
mark (Among p q s t) = []
mark (Raw n) = []
mark Text = 31 ∷ []
mark (Fixed n) = []

-- the bytes of a value
unfoldable pub put : Sub → Val → List ℕ
put d (num n) = bytes (width d) n
put d (txt t) = t ++ mark d

-- the bytes of values one after the other
unfoldable pub puts : List Sub → List Val → List ℕ
puts [] vs = []
puts (d ∷ ds) [] = []
puts (d ∷ ds) (v ∷ vs) = put d v ++ puts ds vs

-- the bytes of tuples one after the other
unfoldable pub put_all : List Sub → List (List Val) → List ℕ
put_all t vss = gather (puts t) vss
