-- Laws of the lines of the listing. Assumes nothing.
use mathlib.Core.Path.{◌≡◌, refl, ◌∙◌}
use mathlib.Core.List.{List, [], ◌∷◌, ◌++◌, append_assoc}
use Prim.Native.Nat.{ℕ, ◌+◌, ◌≤◌}
use native.Mathlib.Omega.{arith}
use lib.ListN.{length}
use Rattle.base.specs.Text.{ascii}
use Rattle.memory.specs.Wrote.{Wrote}
use Rattle.memory.proofs.WroteLaws.{then}
use Rattle.skeleton.specs.Digits.{in_fewest_digits}
use Rattle.writing.proofs.PartsLaws.{wrote_as}
use Rattle.rules.specs.Kind.{tag_of}
use Rattle.rules.specs.Listing.{line}
use Rattle.rules.specs.declared.Kind.{Kind}
use Rattle.rules.specs.declared.Kind.TheVariants.{Info, Point, Multi, Feature}
use Rattle.listing.specs.Lines.{spaced, spaced_tag, line_of, refusal_line, total_line}

-- ---- tags

module _ (at q : ℕ) (d e : List ℕ) (k : Kind) where
  tag_wrote : (t : List ℕ) → t ≡ spaced_tag k → length t ≡ 5 → Wrote at t d q e → Wrote at (spaced_tag k) d q e × (q ≤ at + 5)
  tag_wrote t x l w = (wrote_as x w, omega (arith, w.next))

  pub tag_info : k ≡ Info → Wrote at (ascii " IRID") d q e → Wrote at (spaced_tag k) d q e × (q ≤ at + 5)
  unfolding spaced_tag tag_of
  tag_info x w = tag_wrote (ascii " IRID") (rw x refl) refl w

  pub tag_point : k ≡ Point → Wrote at (ascii " PRID") d q e → Wrote at (spaced_tag k) d q e × (q ≤ at + 5)
  unfolding spaced_tag tag_of
  tag_point x w = tag_wrote (ascii " PRID") (rw x refl) refl w

  pub tag_multi : k ≡ Multi → Wrote at (ascii " MRID") d q e → Wrote at (spaced_tag k) d q e × (q ≤ at + 5)
  unfolding spaced_tag tag_of
  tag_multi x w = tag_wrote (ascii " MRID") (rw x refl) refl w

  pub tag_feature : k ≡ Feature → Wrote at (ascii " FRID") d q e → Wrote at (spaced_tag k) d q e × (q ≤ at + 5)
  unfolding spaced_tag tag_of
  tag_feature x w = tag_wrote (ascii " FRID") (rw x refl) refl w

-- ---- words behind one another

-- a blank and a number, before what follows
spaced_on : (xs ys : List ℕ) (x : ℕ) → (xs ++ spaced x) ++ ys ≡ xs ++ (32 ∷ (in_fewest_digits x ++ ys))
unfolding spaced
spaced_on xs ys x = append_assoc xs (32 ∷ in_fewest_digits x) ys

-- the number of a record, its tag, RCID, RVER, entries, tuples and the newline
module _ (n : ℕ) (k : Kind) (rcid rver entries tuples : ℕ) where
  line_is : (((((in_fewest_digits n ++ spaced_tag k) ++ spaced rcid) ++ spaced rver) ++ spaced entries) ++ spaced tuples) ++ (10 ∷ []) ≡ line_of n k rcid rver entries tuples
  unfolding spaced_tag line_of line
  line_is =
      let a₁ : List ℕ = in_fewest_digits n in
      let a₂ : List ℕ = a₁ ++ spaced_tag k in
      let a₃ : List ℕ = a₂ ++ spaced rcid in
      let a₄ : List ℕ = a₃ ++ spaced rver in
      let s₄ : List ℕ = 32 ∷ (in_fewest_digits tuples ++ (10 ∷ [])) in
      let s₃ : List ℕ = 32 ∷ (in_fewest_digits entries ++ s₄) in
      let s₂ : List ℕ = 32 ∷ (in_fewest_digits rver ++ s₃) in
      let s₁ : List ℕ = 32 ∷ (in_fewest_digits rcid ++ s₂) in
      spaced_on (a₄ ++ spaced entries) (10 ∷ []) tuples ∙ spaced_on a₄ s₄ entries ∙ spaced_on a₃ s₃ rver ∙ spaced_on a₂ s₂ rcid ∙ append_assoc a₁ (spaced_tag k) s₁

  pub line_wrote : (at p₁ p₂ p₃ p₄ p₅ p₆ q : ℕ) (o o₁ o₂ o₃ o₄ o₅ o₆ o₇ : List ℕ)
      → Wrote at (in_fewest_digits n) o p₁ o₁ × (p₁ ≤ at + 20) → Wrote p₁ (spaced_tag k) o₁ p₂ o₂ × (p₂ ≤ p₁ + 5) → Wrote p₂ (spaced rcid) o₂ p₃ o₃ × (p₃ ≤ p₂ + 21)
      → Wrote p₃ (spaced rver) o₃ p₄ o₄ × (p₄ ≤ p₃ + 21) → Wrote p₄ (spaced entries) o₄ p₅ o₅ × (p₅ ≤ p₄ + 21) → Wrote p₅ (spaced tuples) o₅ p₆ o₆ × (p₆ ≤ p₅ + 21)
      → Wrote p₆ (10 ∷ []) o₆ q o₇ → Wrote at (line_of n k rcid rver entries tuples) o q o₇ × (q ≤ at + 110)
  line_wrote at p₁ p₂ p₃ p₄ p₅ p₆ q o o₁ o₂ o₃ o₄ o₅ o₆ o₇ w₁ w₂ w₃ w₄ w₅ w₆ w₇ =
      (wrote_as line_is (then w₇ (then w₆.0 (then w₅.0 (then w₄.0 (then w₃.0 (then w₂.0 w₁.0)))))), omega (arith, w₇.next, w₁.1, w₂.1, w₃.1, w₄.1, w₅.1, w₆.1))

module _ (number file n : ℕ) where
  refusal_is : (((ascii "refused" ++ spaced number) ++ spaced file) ++ spaced n) ++ (10 ∷ []) ≡ refusal_line number file n
  unfolding spaced refusal_line line
  refusal_is = simp append_assoc refl

  pub refusal_wrote : (at p₁ p₂ p₃ p₄ q : ℕ) (o o₁ o₂ o₃ o₄ o₅ : List ℕ)
      → Wrote at (ascii "refused") o p₁ o₁ → Wrote p₁ (spaced number) o₁ p₂ o₂ × (p₂ ≤ p₁ + 21) → Wrote p₂ (spaced file) o₂ p₃ o₃ × (p₃ ≤ p₂ + 21)
      → Wrote p₃ (spaced n) o₃ p₄ o₄ × (p₄ ≤ p₃ + 21) → Wrote p₄ (10 ∷ []) o₄ q o₅ → Wrote at (refusal_line number file n) o q o₅ × (q ≤ at + 71)
  refusal_wrote at p₁ p₂ p₃ p₄ q o o₁ o₂ o₃ o₄ o₅ w₁ w₂ w₃ w₄ w₅ =
      (wrote_as refusal_is (then w₅ (then w₄.0 (then w₃.0 (then w₂.0 w₁)))), omega (arith, w₅.next, w₁.next, w₂.1, w₃.1, w₄.1))

module _ (n : ℕ) where
  total_is : (ascii "total" ++ spaced n) ++ (10 ∷ []) ≡ total_line n
  unfolding spaced total_line line
  total_is = simp append_assoc refl

  pub total_wrote : (at p₁ p₂ q : ℕ) (o o₁ o₂ o₃ : List ℕ)
      → Wrote at (ascii "total") o p₁ o₁ → Wrote p₁ (spaced n) o₁ p₂ o₂ × (p₂ ≤ p₁ + 21) → Wrote p₂ (10 ∷ []) o₂ q o₃ → Wrote at (total_line n) o q o₃ × (q ≤ at + 27)
  total_wrote at p₁ p₂ q o o₁ o₂ o₃ w₁ w₂ w₃ = (wrote_as total_is (then w₃ (then w₂.0 w₁)), omega (arith, w₃.next, w₁.next, w₂.1))
