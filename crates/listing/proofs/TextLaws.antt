-- Laws of writers that lose what has no room. Assumes nothing.
use mathlib.Core.Path.{◌≡◌, refl, sym, ap, ◌∙◌}
use mathlib.Core.List.{List, [], ◌∷◌}
use Prim.Native.Nat.{ℕ, ◌+◌, ◌^◌, ◌≤◌, ◌<◌}
use native.Mathlib.Omega.{arith}
use lib.ListN.{length, take, get_or, set, replicate, length-replicate}
use Rattle.memory.specs.Digits.{decimal}
use Rattle.memory.specs.Wrote.{Wrote}
use Rattle.memory.proofs.DigitLaws.{length_decimal}
use Rattle.memory.proofs.LoopLaws.{Stored, stored_none, stored_up, stored_all}
use Rattle.memory.proofs.WroteLaws.{then, wrote_take}
use Rattle.skeleton.specs.Digits.{in_digits, fewest_digits, in_fewest_digits}
use Rattle.writing.proofs.PartsLaws.{same_digits, wrote_as}
use Rattle.listing.specs.Lines.{spaced}

-- ---- the loop of `put_text`: k bytes of the text are stored, where there was room for them

pub text_start : (at : ℕ) (text d : List ℕ) → Stored at (length text) text d 0 0 d
text_start at text d = stored_none at (length text) text d 0 refl (omega arith)

module _ (at : ℕ) (text d₀ : List ℕ) (k : ℕ) (d : List ℕ) (inv : Stored at (length text) text d₀ 0 k d) where
  pub text_more : (e : List ℕ) → k < length text → e ≡ set d (at + k) (get_or text k 0) → Stored at (length text) text d₀ 0 (k + 1) e
  text_more e h x = rw x (stored_up inv h refl)

  pub text_long : length d ≡ length d₀
  text_long = inv.long

  pub text_done : length text ≤ k → Wrote at text d₀ (at + length text) d
  text_done h = record { next = refl; is = stored_all inv (omega arith) h }

pub ruleset text_turn = (text_start, text_more, text_long, text_done, arith)

-- ---- `put_number`: the digits d of a number, made in a place of their own, are written

digits_made : (w x r : ℕ) (d e : List ℕ) → length d ≡ 20 → w ≤ 20 → Wrote 0 (decimal w x) d r e → take w e ≡ decimal w x
digits_made w x r d e long small wrote =
    let q : w ≡ r = omega (arith, wrote.next, length_decimal w x) in
    ap (λ (n : ℕ). take n e) q ∙ wrote_take wrote (omega (arith, length_decimal w x))

module _ (x w r : ℕ) (e : List ℕ) (ew : w ≡ fewest_digits x) (small : w ≤ 20) (made : Wrote 0 (decimal w x) (replicate 20 0) r e) where
  digits_are : take w e ≡ in_fewest_digits x
  unfolding in_fewest_digits
  digits_are = digits_made w x r (replicate 20 0) e (length-replicate {A = ℕ} 20 0) small made ∙ same_digits w x ∙ ap (λ (n : ℕ). in_digits n x) ew

  digits_long : length (take w e) ≡ w
  digits_long = ap length (digits_made w x r (replicate 20 0) e (length-replicate {A = ℕ} 20 0) small made) ∙ length_decimal w x

  pub number_long : w ≡ length (take w e)
  number_long = sym digits_long

  pub number_room : (at : ℕ) → at + 20 < 2 ^ 64 → at + length (take w e) < 2 ^ 64
  number_room at h = let l = digits_long in omega arith

  pub number_wrote : (at q : ℕ) (o o₁ : List ℕ) → Wrote at (take w e) o q o₁ → Wrote at (in_fewest_digits x) o q o₁ × (q ≤ at + 20)
  number_wrote at q o o₁ v = (wrote_as digits_are v, omega (arith, v.next, digits_long))

pub ruleset number_ways = (number_long, number_room, number_wrote)

-- ---- `put_spaced`

pub spaced_wrote : (at p q x : ℕ) (o o₁ o₂ : List ℕ) → Wrote at (32 ∷ []) o p o₁ → Wrote p (in_fewest_digits x) o₁ q o₂ × (q ≤ p + 20)
    → Wrote at (spaced x) o q o₂ × (q ≤ at + 21)
unfolding spaced
spaced_wrote at p q x o o₁ o₂ v w = (then w.0 v, omega (arith, v.next, w.1))
