-- Laws of the fewest digits that hold a number. Assumes nothing.
use mathlib.Core.Path.{◌≡◌, ap, ◌∙◌}
use mathlib.Core.Logic.{⊎_elim}
use Prim.Native.Nat.{ℕ, zero, suc, ◌+◌, ◌*◌, ◌/◌, ◌^◌, ◌≤◌, ◌<◌}
use native.Mathlib.Nat.{pow-suc, div-lt_iff_lt-mul}
use native.Mathlib.Omega.{arith}
use borrow.Author.Tests.{lt-ltb, le-ltb, ltb-false}
use lib.Dec.{ltb}
use lib.ListN.{length}
use Rattle.base.specs.Walk.{Got, follow, walk, Lower}
use Rattle.base.proofs.ChoiceLaws.{by_test}
use Rattle.base.proofs.WalkLaws.{walk_step}
use Rattle.skeleton.specs.Digits.{tenth, fewest_digits}
use Rattle.forest.proofs.Numbers.{lt_or_le}

-- ---- digit by digit

-- a step leads to a smaller number
falls : (n : ℕ) → Lower (λ (m : ℕ). m) n (tenth n)
unfolding tenth
falls n = by_test (Lower (λ (m : ℕ). m) n) (ltb n 10) _ _ (λ e. tt) (λ e. let h = ltb-false n 10 e in omega arith)

step : (n : ℕ) → fewest_digits n ≡ suc (length (follow (tenth n) (walk tenth (λ m. m))).items)
unfolding fewest_digits
step n = ap (λ (g : Got (Unit {0})). suc (length g.items)) (walk_step tenth (λ m. m) falls n)

pub fewest_one : (n : ℕ) → n < 10 → fewest_digits n ≡ 1
unfolding tenth
fewest_one n h = step n ∙ simp (lt-ltb n 10 h)

pub fewest_more : (n : ℕ) → 10 ≤ n → fewest_digits n ≡ suc (fewest_digits (n / 10))
unfolding tenth fewest_digits
fewest_more n h = step n ∙ simp (le-ltb n 10 h)

-- ---- no number below a power of ten has more

pub fewest_within : (w n : ℕ) → n < 10 ^ (suc w) → fewest_digits n ≤ suc w
fewest_within zero n h = let e = fewest_one n (omega arith) in omega arith
fewest_within (suc w) n h =
    ⊎_elim (λ (l : n < 10). let e = fewest_one n l in omega arith)
    (λ (g : 10 ≤ n).
    let e = fewest_more n g in
    let fits : n < 10 ^ (suc w) * 10 = rw pow-suc at h in
    let i = fewest_within w (n / 10) ((div-lt_iff_lt-mul (omega arith)).1 fits) in
    omega arith) (lt_or_le n 10)

-- ---- `digits_of`: w digits, of which w - 1 are cut off, and those of the rest

pub record Counted (x rest w : ℕ) : Type 0 where
  pub sum : w + fewest_digits rest ≡ fewest_digits x + 1
  pub small : w + rest ≤ x + 1

pub counted_start : (x : ℕ) → Counted x x 1
counted_start x = record { sum = omega arith; small = omega arith }

module _ (x rest w : ℕ) (inv : Counted x rest w) where
  pub counted_word : 10 ≤ rest → x < 2 ^ 64 → w + 1 < 2 ^ 64
  counted_word h l = let s = inv.small in omega arith

  pub counted_more : 10 ≤ rest → Counted x (rest / 10) (w + 1)
  counted_more h =
      let e = fewest_more rest h in
      let s = inv.sum in
      let t = inv.small in
      record { sum = omega arith; small = omega arith }

  pub counted_falls : 10 ≤ rest → rest / 10 < rest
  counted_falls h = omega arith

  pub counted_done : rest < 10 → x < 2 ^ 64 → (w ≡ fewest_digits x) × (w ≤ 20)
  counted_done h l =
      let e = fewest_one rest h in
      let s = inv.sum in
      let k = fewest_within 19 x (omega arith) in
      (omega arith, omega arith)

pub ruleset digits_turn = (counted_start, counted_word, counted_more, counted_falls, counted_done, arith)
