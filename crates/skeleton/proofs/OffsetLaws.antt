-- What stands p bytes on in a list whose first p bytes are known. Assumes nothing.
use mathlib.Core.Path.{◌≡◌, ap, ◌∙◌}
use mathlib.Core.List.{List, ◌++◌}
use Prim.Native.Nat.{ℕ, ◌+◌, ◌^◌, ◌<◌}
use native.Mathlib.Nat.{zero-mul, zero-add}
use lib.ListN.{length, get_or, take, drop, length-append}
use lib.Seq.{take_at, drop_at, get_or-append-add}
use Rattle.skeleton.specs.Digits.{digits, digits_from, number_at, in_digits}
use Rattle.std.specs.Prelude.{Some}
use Rattle.skeleton.proofs.EmitDigitsLaws.{length_digits, digits_back}

module _ (r pre q : List ℕ) (p : ℕ) (e : r ≡ pre ++ q) (l : length pre ≡ p) where
  pub byte_off : (n : ℕ) → get_or r (p + n) 0 ≡ get_or q n 0
  byte_off n = rw (e, ← l) (get_or-append-add pre q n 0)

  pub drop_off : drop p r ≡ q
  drop_off = rw e (drop_at pre q p l)

  pub length_off : length r ≡ p + length q
  length_off = rw (e, ← l) (length-append pre q)

-- a number that was written there
pub number_off : (r pre more : List ℕ) (p w n : ℕ) → r ≡ pre ++ (in_digits w n ++ more) → length pre ≡ p → n < 10 ^ w → number_at r p w ≡ Some n
unfolding digits_from
number_off r pre more p w n e l h =
    ap (λ (s : List ℕ). digits (take w s) 0) (drop_off r pre (in_digits w n ++ more) p e l)
    ∙ ap (λ (s : List ℕ). digits s 0) (take_at (in_digits w n) more w (length_digits w n))
    ∙ digits_back w n 0 h ∙ simp (zero-mul, zero-add)
