-- Laws of flags in bits. Assumes nothing.
use mathlib.Core.Path.{◌≡◌, refl, sym, ap, ◌∙◌}
use mathlib.Core.List.{List}
use mathlib.Core.Bool.{Bool, true, false}
use Prim.Native.Nat.{ℕ, zero, suc, ◌+◌, ◌*◌, ◌/◌, ◌%◌, ◌^◌, ◌≤◌, ◌<◌}
use native.Mathlib.Omega.{arith}
use native.Mathlib.Nat.{pow-succ', div-div-eq-div-mul}
use borrow.Author.Tests.{eq-eqb, ne_eqb, ltb-true, ltb-false, eqb-true, eqb-false}
use lib.ListN.{length, get_or, set, length-set}
use lib.Seq.{get_or-set_same, get_or-set_other, set_out}
use lib.Dec.{ltb, eqb}
use Rattle.base.specs.Choice.{pick}
use Rattle.base.proofs.ChoiceLaws.{by_test}
use Rattle.keys.specs.Bits.{bit_of, flag_of, raised}

-- ---- `bit`

-- a shift by i is a division by 2 as often
pub bit_shifted : (i b : ℕ) → b / 2 ^ i % 2 ≡ bit_of i b
unfolding bit_of
bit_shifted zero b = omega arith
bit_shifted (suc i) b = ap (λ (n : ℕ). b / n % 2) (pow-succ' 2 i) ∙ ap (λ (n : ℕ). n % 2) (sym (div-div-eq-div-mul b 2 (2 ^ i))) ∙ bit_shifted i (b / 2)

pub ruleset bit_ways = (bit_shifted, arith)

-- ---- `flag`

pub flag_is : (t : List ℕ) (j r : ℕ) → r ≡ bit_of (j % 8) (get_or t (j / 8) 0) → eqb r 1 ≡ flag_of t j
unfolding flag_of
flag_is t j r e = rw e refl

-- ---- one bit more

-- a bit is 0 or 1
bit_two : (i b : ℕ) → bit_of i b < 2
unfolding bit_of
bit_two zero b = omega arith
bit_two (suc i) b = bit_two i (b / 2)

-- none of the bits of 0 is set
bit_none : (i : ℕ) → bit_of i 0 ≡ 0
unfolding bit_of
bit_none zero = refl
bit_none (suc i) = bit_none i

double : (i : ℕ) → 2 ^ suc i ≡ 2 * 2 ^ i
double i = omega arith

-- where bit i is not set, adding 2 ^ i sets it, and changes no other
half : (i b : ℕ) → (b + 2 ^ suc i) / 2 ≡ b / 2 + 2 ^ i
half i b = omega (arith, double i)

pub bit_same : (i b : ℕ) → bit_of i b ≡ 0 → bit_of i (b + 2 ^ i) ≡ 1
unfolding bit_of
bit_same zero b e = omega arith
bit_same (suc i) b e = rw (half i b) (bit_same i (b / 2) e)

pub bit_other : (i j b : ℕ) → bit_of i b ≡ 0 → (j ≡ i → ⊥) → bit_of j (b + 2 ^ i) ≡ bit_of j b
unfolding bit_of
bit_other zero zero b e n = absurd (n refl)
bit_other zero (suc j) b e n = let h : (b + 2 ^ 0) / 2 ≡ b / 2 = omega arith in rw h refl
bit_other (suc i) zero b e n = omega (arith, double i)
bit_other (suc i) (suc j) b e n = rw (half i b) (bit_other i j (b / 2) e (λ x. n (ap suc x)))

-- it still fits
bit_fits : (w i b : ℕ) → bit_of i b ≡ 0 → i < w → b < 2 ^ w → b + 2 ^ i < 2 ^ w
unfolding bit_of
bit_fits zero i b e h g = absurd (omega arith)
bit_fits (suc w) zero b e h g = omega (arith, double w)
bit_fits (suc w) (suc i) b e h g =
    let s : b / 2 + 2 ^ i < 2 ^ w = bit_fits w i (b / 2) e (omega arith) (omega (arith, double w)) in
    omega (arith, double w, double i)

-- ---- `with_bit`

pub with_bit_fits : (i b w : ℕ) → bit_of i b ≡ 0 → i < 8 → b < 2 ^ 8 → w ≡ 2 ^ i → b + w < 2 ^ 8
with_bit_fits i b w e h g x = rw x (bit_fits 8 i b e h g)

pub with_bit_is : (i b w : ℕ) → w ≡ 2 ^ i → b + w ≡ b + 2 ^ i
with_bit_is i b w x = ap (λ (n : ℕ). b + n) x

pub ruleset with_bit_ways = (with_bit_fits, with_bit_is, arith)

-- ---- `raise`

-- a flag that is not raised is a bit that is 0
not_one : (i b : ℕ) → (bit_of i b ≡ 1 → ⊥) → bit_of i b ≡ 0
not_one i b n = let s = bit_two i b in omega arith

either_way : (c : Bool) (t u : List ℕ) → u ≡ t → t ≡ pick c t u
either_way true t u e = refl
either_way false t u e = sym e

pub raise_past : (t : List ℕ) (j : ℕ) → length t ≤ j / 8 → t ≡ raised t j
unfolding raised
raise_past t j h = either_way (flag_of t j) t _ (set_out t (j / 8) _ h)

module _ (t : List ℕ) (j r : ℕ) (e : r ≡ bit_of (j % 8) (get_or t (j / 8) 0)) where
  pub raise_again : r ≡ 1 → t ≡ raised t j
  unfolding raised flag_of
  raise_again x = simp (← e, eq-eqb r 1 x)

  pub raise_not : (r ≡ 1 → ⊥) → bit_of (j % 8) (get_or t (j / 8) 0) ≡ 0
  raise_not n = not_one (j % 8) _ (λ z. n (e ∙ z))

  pub raise_there : (r ≡ 1 → ⊥) → (v : ℕ) → v ≡ get_or t (j / 8) 0 + 2 ^ (j % 8) → set t (j / 8) v ≡ raised t j
  unfolding raised flag_of
  raise_there n v x = rw x (simp (← e, ne_eqb r 1 n))

pub raise_index : (j : ℕ) → j % 8 < 8
raise_index j = omega arith

pub ruleset raise_ways = (raise_past, raise_again, raise_not, raise_there, raise_index, arith)

-- ---- the flags afterwards

-- no flag is raised in a map of zeroes
pub flag_none : (t : List ℕ) (j : ℕ) → get_or t (j / 8) 0 ≡ 0 → flag_of t j ≡ false
unfolding flag_of
flag_none t j e = rw (e, bit_none (j % 8)) refl

pub raised_long : (t : List ℕ) (j : ℕ) → length (raised t j) ≡ length t
unfolding raised
raised_long t j = by_test (λ (u : List ℕ). length u ≡ length t) (flag_of t j) _ _ (λ _. refl) (λ _. length-set t (j / 8) _)

-- the bit of a flag that is not raised
flag_clear : (t : List ℕ) (j : ℕ) → flag_of t j ≡ false → bit_of (j % 8) (get_or t (j / 8) 0) ≡ 0
unfolding flag_of
flag_clear t j e = not_one (j % 8) (get_or t (j / 8) 0) (eqb-false _ 1 e)

-- flag j is raised
flag_set : (t : List ℕ) (j : ℕ) → j / 8 < length t → flag_of t j ≡ false → flag_of (set t (j / 8) (get_or t (j / 8) 0 + 2 ^ (j % 8))) j ≡ true
unfolding flag_of
flag_set t j h e =
    rw (get_or-set_same t (j / 8) (get_or t (j / 8) 0 + 2 ^ (j % 8)) 0 h, bit_same (j % 8) (get_or t (j / 8) 0) (flag_clear t j e)) refl

pub flag_same : (t : List ℕ) (j : ℕ) → j / 8 < length t → flag_of (raised t j) j ≡ true
unfolding raised
flag_same t j h = by_test (λ (u : List ℕ). flag_of u j ≡ true) (flag_of t j) _ _ (λ e. e) (λ e. flag_set t j h e)

-- the others are as they were, whether they stand in the same byte or not
module _ (t : List ℕ) (i j : ℕ) (n : i ≡ j → ⊥) (h : j / 8 < length t) (z : bit_of (j % 8) (get_or t (j / 8) 0) ≡ 0) where
  other_bit : (b : Bool) → eqb (i / 8) (j / 8) ≡ b
      → bit_of (i % 8) (get_or (set t (j / 8) (get_or t (j / 8) 0 + 2 ^ (j % 8))) (i / 8) 0) ≡ bit_of (i % 8) (get_or t (i / 8) 0)
  other_bit true x =
      let y : i / 8 ≡ j / 8 = eqb-true _ _ x in
      let m : i % 8 ≡ j % 8 → ⊥ = λ w. n (omega arith) in
      rw (y, get_or-set_same t (j / 8) (get_or t (j / 8) 0 + 2 ^ (j % 8)) 0 h) (bit_other (j % 8) (i % 8) (get_or t (j / 8) 0) z m)
  other_bit false x = rw (get_or-set_other t (j / 8) (i / 8) (get_or t (j / 8) 0 + 2 ^ (j % 8)) 0 (eqb-false _ _ x)) refl

  flag_apart : flag_of (set t (j / 8) (get_or t (j / 8) 0 + 2 ^ (j % 8))) i ≡ flag_of t i
  unfolding flag_of
  flag_apart = ap (λ (b : ℕ). eqb b 1) (other_bit (eqb (i / 8) (j / 8)) refl)

pub flag_other : (t : List ℕ) (i j : ℕ) → (i ≡ j → ⊥) → flag_of (raised t j) i ≡ flag_of t i
unfolding raised
flag_other t i j n = go (ltb (j / 8) (length t)) refl
  where
    go : (b : Bool) → ltb (j / 8) (length t) ≡ b → flag_of (raised t j) i ≡ flag_of t i
    go true x =
        by_test (λ (u : List ℕ). flag_of u i ≡ flag_of t i) (flag_of t j) _ _ (λ _. refl)
        (λ e. flag_apart t i j n (ltb-true (j / 8) (length t) x) (flag_clear t j e))
    go false x = ap (λ (u : List ℕ). flag_of u i) (sym (raise_past t j (ltb-false (j / 8) (length t) x)))
