-- The same at a place of a field's bytes: the answers of the code.
use Rattle.std.specs.Prelude.{ℕ, ◌+◌, Bool, true, false, List, [], ◌∷◌, length, take, drop, ltb, Option as StdOption, Some, None, Result}
use Rattle.std.proofs.Math.Option.{Option, none, some}
use Rattle.base.specs.Choice.{pick}
use Rattle.fields.specs.Sizes.{in_range, in_set, size, sizes}
use Rattle.fields.specs.Content.{tuples, tally}
use Rattle.fields.specs.declared.Sub.{Sub}
use Rattle.fields.specs.declared.Sub.TheVariants.{B11, B12, B14, Among, Raw, Text, Fixed}

-- ---- where subfields end

-- the place next, if the value is from lo to hi
abbrev pub within : ℕ → ℕ → ℕ → ℕ → StdOption ℕ
within lo hi v next = pick (in_range lo hi v) (Some next) None

-- the place next, if the value is one of four
abbrev pub one_of : ℕ → ℕ → ℕ → ℕ → ℕ → ℕ → StdOption ℕ
one_of p q s t v next = pick (in_set p q s t v) (Some next) None

-- so many bytes after a place
abbrev pub after : ℕ → Option ℕ → StdOption ℕ
after at none = None
after at (some n) = Some (at + n)

-- where the subfield at a place ends
unfoldable pub subfield_end : Sub → List ℕ → ℕ → StdOption ℕ
subfield_end d b at = after at (size d (drop at b))

-- where the subfields from a place on end
unfoldable pub subfields_end : List Sub → List ℕ → ℕ → StdOption ℕ
subfields_end ds b at = after at (sizes ds (drop at b))

-- where subfield j, from 0, of a head begins; the end of the head for one that it does not have
unfoldable pub head_place : List Sub → ℕ → List ℕ → StdOption ℕ
head_place h j b = subfields_end (take j h) b 0

-- ---- tuples from a place on

-- 0 where they fill the bytes, else 5
unfoldable pub ending_at : List Sub → List ℕ → ℕ → ℕ
ending_at t b at = (tuples t (drop at b)).ending

-- they are counted, where k stand before them
unfoldable pub tally_at : List Sub → List ℕ → ℕ → ℕ → Result ℕ ℕ
tally_at t b at k = tally t (drop at b) k

-- where the tuple at a place ends
unfoldable pub tuple_at : List Sub → List ℕ → ℕ → StdOption ℕ
tuple_at t b at = pick (ltb at (length b)) (subfields_end t b at) None

-- ---- tuples of which the length alone is tested

-- any bytes will do
abbrev pub is_raw : Sub → Bool
is_raw (B11 lo hi) = false
is_raw (B12 lo hi) = false
is_raw (B14 lo hi) = false
is_raw (Among p q s t) = false
is_raw (Raw n) = true
is_raw Text = false
is_raw (Fixed n) = false

-- each subfield takes any bytes
unfoldable pub all_raw : List Sub → Bool
all_raw [] = true
all_raw (d ∷ ds) = pick (is_raw d) (all_raw ds) false
