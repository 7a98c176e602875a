-- A number that was written in digits is read back. Assumes nothing.
use mathlib.Core.Path.{◌≡◌, refl, ap, ◌∙◌}
use mathlib.Core.List.{List, [], ◌∷◌, ◌++◌}
use mathlib.Core.Bool.{Bool, true, false}
use Prim.Native.Nat.{ℕ, zero, suc, ◌+◌, ◌-◌, ◌*◌, ◌/◌, ◌%◌, ◌^◌, ◌<◌}
use native.Mathlib.Nat.{pow-suc, add-sub_cancel, div-lt_iff_lt-mul, div-add-mod'}
use native.Mathlib.Omega.{arith}
use borrow.Author.Tests.{le-leb}
use lib.ListN.{length, length-append}
use Rattle.base.specs.Choice.{pick}
use Rattle.skeleton.specs.Digits.{is_digit, digits, in_digits}
use Rattle.std.specs.Prelude.{Option, Some, None}

pub length_digits : (w n : ℕ) → length (in_digits w n) ≡ w
unfolding in_digits
length_digits zero n = refl
length_digits (suc w) n = simp (length-append, length_digits w (n / 10)) (omega arith)

same_value : (m n : ℕ) → Some m ≡ Some n → m ≡ n
same_value m n e = cc

digit_on : (t : Bool) (a b : Option ℕ) (n : ℕ) (r : Option ℕ) → (a ≡ Some n → b ≡ r) → pick t a None ≡ Some n → pick t b None ≡ r
digit_on true a b n r f e = f e
digit_on false a b n r f e = let z : ◌≡◌ {A = ℕ} 0 1 = cc in absurd (omega arith)

-- more digits after those of n
digits_on : (xs ys : List ℕ) (acc n : ℕ) → digits xs acc ≡ Some n → digits (xs ++ ys) acc ≡ digits ys n
unfolding digits
digits_on [] ys acc n e = ap (digits ys) (same_value acc n e)
digits_on (x ∷ xs) ys acc n e = digit_on (is_digit x) _ _ n _ (digits_on xs ys (acc * 10 + (x - 48)) n) e

one_digit : (d acc : ℕ) → d < 10 → digits ((d + 48) ∷ []) acc ≡ Some (acc * 10 + d)
unfolding digits is_digit
one_digit d acc h = simp (le-leb 48 (d + 48) (omega arith), le-leb (d + 48) 57 (omega arith), add-sub_cancel d 48)

-- w digits of n, read after acc
pub digits_back : (w n acc : ℕ) → n < 10 ^ w → digits (in_digits w n) acc ≡ Some (acc * 10 ^ w + n)
unfolding in_digits digits
digits_back zero n acc h = ap Some (omega arith)
digits_back (suc w) n acc h =
    let l : n < 10 ^ w * 10 = rw pow-suc at h in
    digits_on (in_digits w (n / 10)) ((n % 10 + 48) ∷ []) acc _ (digits_back w (n / 10) acc ((div-lt_iff_lt-mul (omega arith)).1 l))
    ∙ one_digit (n % 10) (acc * 10 ^ w + n / 10) (omega arith) ∙ ap Some (rw pow-suc (omega (arith, div-add-mod' n 10)))
