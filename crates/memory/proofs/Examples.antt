-- The definitions, computed on a few lists. Assumes nothing.
use mathlib.Core.Path.{◌≡◌, refl}
use mathlib.Core.List.{List, [], ◌∷◌}
use Prim.Native.Nat.{ℕ}
use Rattle.memory.specs.Put.{part, put}
use Rattle.memory.specs.Hold.{zeros, hold}
use Rattle.memory.specs.Splice.{spliced, spliced_in, opened}
use Rattle.memory.specs.Digits.{digits, number, little_endian, from_little_endian, decimal, from_decimal}

-- five bytes to work on
abbrev five : List ℕ
five = 10 ∷ 11 ∷ 12 ∷ 13 ∷ 14 ∷ []

-- three of them
some : part 1 3 five ≡ 11 ∷ 12 ∷ 13 ∷ []
unfolding part
some = refl

-- two stored over them
over : put 1 (7 ∷ 8 ∷ []) five ≡ 10 ∷ 7 ∷ 8 ∷ 13 ∷ 14 ∷ []
unfolding put
over = refl

-- what has no place is lost
lost : put 4 (7 ∷ 8 ∷ []) five ≡ 10 ∷ 11 ∷ 12 ∷ 13 ∷ 7 ∷ []
unfolding put
lost = refl

-- one in a place of four
held : hold 4 (7 ∷ []) ≡ 7 ∷ 0 ∷ 0 ∷ 0 ∷ []
unfolding hold zeros
held = refl

-- two of them give way to one
replaced : spliced 1 2 (7 ∷ []) five ≡ 10 ∷ 7 ∷ 13 ∷ 14 ∷ []
unfolding spliced
replaced = refl

-- of the first four, two give way to one; the place that is given up is as it was
in_place : spliced_in 4 1 2 (7 ∷ []) five ≡ 10 ∷ 7 ∷ 13 ∷ 13 ∷ 14 ∷ []
unfolding spliced_in part put
in_place = refl

-- in the first three, a gap of two; what stands in it is as it was
gap : opened 3 1 2 five ≡ 10 ∷ 11 ∷ 12 ∷ 11 ∷ 12 ∷ []
unfolding opened part put
gap = refl

-- 1 * 65536 + 2 * 256 + 3
low_first : little_endian 4 66051 ≡ 3 ∷ 2 ∷ 1 ∷ 0 ∷ []
unfolding little_endian digits
low_first = refl

-- `00427`
high_first : decimal 5 427 ≡ 48 ∷ 48 ∷ 52 ∷ 50 ∷ 55 ∷ []
unfolding decimal digits
high_first = refl

-- the same number read
bytes_say : from_little_endian (3 ∷ 2 ∷ 1 ∷ 0 ∷ []) ≡ 66051
unfolding from_little_endian number
bytes_say = refl

-- the same number read
digits_say : from_decimal (48 ∷ 48 ∷ 52 ∷ 50 ∷ 55 ∷ []) ≡ 427
unfolding from_decimal number
digits_say = refl
