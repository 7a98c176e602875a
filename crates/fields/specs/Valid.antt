-- Bytes that have a format, and values that a format can write: each within its range.
use Rattle.std.specs.Prelude.{ℕ, ◌<◌, ◌^◌, ◌≡◌, Bool, true, false, List, [], ◌∷◌, length, get_or, ltb, eqb}
use Rattle.base.specs.Choice.{both}
use Rattle.fields.specs.Bytes.{clean}
use Rattle.fields.specs.Sizes.{in_range, in_set}
use Rattle.fields.specs.Values.{Val, num, txt, width, puts}
use Rattle.fields.specs.Table.{head_of, tuple_of}
use Rattle.fields.specs.Content.{Content, fill}
use Rattle.fields.specs.declared.Format.{Format}
use Rattle.fields.specs.declared.Sub.{Sub}
use Rattle.fields.specs.declared.Sub.TheVariants.{B11, B12, B14, Among, Raw, Text, Fixed}

-- the numbers are bytes
abbrev pub Bytes : List ℕ → Type 0
Bytes l = (k : ℕ) → get_or l k 0 < 256

-- the subfields of a format fill a body
abbrev pub Has : Format → List ℕ → Type 0
Has k b = fill (head_of k) (tuple_of k) b ≡ true

-- a number within the subfield's range
unfoldable pub allows : Sub → ℕ → Bool
allows (B11 lo hi) v = in_range lo hi v
allows (B12 lo hi) v = in_range lo hi v
allows (B14 lo hi) v = in_range lo hi v
allows (Among p q s t) v = in_set p q s t v
allows (Raw n) v = true
allows Text v = false
allows (Fixed n) v = false

-- the subfield takes a text of so many bytes
unfoldable pub takes_text : Sub → ℕ → Bool
takes_text (B11 lo hi) n = false
takes_text (B12 lo hi) n = false
takes_text (B14 lo hi) n = false
takes_text (Among p q s t) n = false
takes_text (Raw m) n = false
takes_text Text n = true
takes_text (Fixed m) n = eqb n m

-- the subfield takes the value
unfoldable pub passes : Sub → Val → Bool
passes d (num n) = both (ltb n (256 ^ width d)) (allows d n)
passes d (txt t) = both (clean t) (takes_text d (length t))

-- a value for each subfield, and each takes its own
unfoldable pub pass_all : List Sub → List Val → Bool
pass_all [] [] = true
pass_all [] (v ∷ vs) = false
pass_all (d ∷ ds) [] = false
pass_all (d ∷ ds) (v ∷ vs) = both (passes d v) (pass_all ds vs)

-- tuples of such values, each of at least one byte
unfoldable pub pass_each : List Sub → List (List Val) → Bool
pass_each t [] = true
pass_each t (vs ∷ vss) = both (pass_all t vs) (both (ltb 0 (length (puts t vs))) (pass_each t vss))

-- a head and tuples of such values
unfoldable pub valid : List Sub → List Sub → Content → Bool
valid h t c = both (pass_all h c.head) (pass_each t c.tuples)
