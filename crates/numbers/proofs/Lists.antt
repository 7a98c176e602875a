-- Numbers in lists, and lists by the file that a refusal names. Assumes nothing.
use Prim.Native.Nat.{ℕ, ◌<◌}
use mathlib.Core.Path.{◌≡◌, refl, sym, ap, subst, ◌∙◌}
use mathlib.Core.Bool.{Bool, true, false, not}
use mathlib.Core.List.{List, [], ◌∷◌}
use borrow.Author.Tests.{eqb-true, lt-ltb}
use lib.Dec.{eqb, ltb}
use Rattle.base.specs.Choice.{pick, both, either}
use Rattle.base.proofs.ChoiceLaws.{both_hold, both_too, by_test}
use Rattle.rules.proofs.ReadOnce.{clash}
use Rattle.numbers.specs.Refusals.{is_in, recordless, right_record, by_file}

-- each passes a test
unfoldable pub each_passes : (ℕ → Bool) → List ℕ → Bool
each_passes p [] = true
each_passes p (n ∷ ns) = both (p n) (each_passes p ns)

-- each is in another list
unfoldable pub all_in : List ℕ → List ℕ → Bool
all_in ns may = each_passes (λ n. is_in n may) ns

-- so one of them passes
pub in_passes : (p : ℕ → Bool) (n : ℕ) (ns : List ℕ) → each_passes p ns ≡ true → is_in n ns ≡ true → p n ≡ true
unfolding each_passes is_in
in_passes p n [] h i = absurd (clash false i refl)
in_passes p n (x ∷ xs) h i = go (eqb n x) refl i (λ j. in_passes p n xs (both_hold (p x) (each_passes p xs) h).1 j)
  where
    go : (b : Bool) → eqb n x ≡ b → either b (is_in n xs) ≡ true → (is_in n xs ≡ true → p n ≡ true) → p n ≡ true
    go true e j later = ap p (eqb-true n x e) ∙ (both_hold (p x) (each_passes p xs) h).0
    go false e j later = later j

-- one of them is in a list that has them all
pub in_wider : (n : ℕ) (ns may : List ℕ) → all_in ns may ≡ true → is_in n ns ≡ true → is_in n may ≡ true
unfolding all_in
in_wider n ns may = in_passes (λ m. is_in m may) n ns

-- they are all in a list that has all of such a list
pub all_wider : (ns ms may : List ℕ) → all_in ns ms ≡ true → all_in ms may ≡ true → all_in ns may ≡ true
unfolding all_in each_passes
all_wider [] ms may p q = refl
all_wider (n ∷ ns) ms may p q = let (x, y) = both_hold (is_in n ms) (all_in ns ms) p in both_too (in_wider n ms may q x) (all_wider ns ms may y q)

-- a number of a list without 0 is not 0
pub in_nonzero : (n : ℕ) (ns : List ℕ) → is_in 0 ns ≡ false → is_in n ns ≡ true → eqb n 0 ≡ false
in_nonzero n ns h i = go (eqb n 0) refl
  where
    go : (b : Bool) → eqb n 0 ≡ b → b ≡ false
    go false e = refl
    go true e = absurd (clash (is_in 0 ns) (ap (λ m. is_in m ns) (sym (eqb-true n 0 e)) ∙ i) h)

-- a number that names a record
unfoldable pub names : ℕ → Bool
names m = not (is_in m recordless)

-- so one of such numbers, at a record counted from 1
pub named_right : (m n : ℕ) (ns : List ℕ) → each_passes names ns ≡ true → is_in m ns ≡ true → 0 < n → right_record m n ≡ true
unfolding right_record names
named_right m n ns h i l = go (is_in m recordless) (in_passes names m ns h i)
  where
    go : (b : Bool) → not b ≡ true → pick b (eqb n 0) (ltb 0 n) ≡ true
    go false e = lt-ltb 0 n l
    go true e = absurd (clash false e refl)

-- what holds of each file and its list, and of any file without one, holds of all files
pub of_each_file : (P : ℕ → List ℕ → Type 0) (none dataset sent result : List ℕ) → P 0 none → P 1 dataset → P 2 sent → P 3 result → ((file : ℕ) → P file [])
    → (file : ℕ) → P file (by_file none dataset sent result file)
unfolding by_file
of_each_file P none dataset sent result a b c d e file =
    by_test (P file) (eqb file 0) _ _ (is 0 a) (λ _.
    by_test (P file) (eqb file 1) _ _ (is 1 b) (λ _.
    by_test (P file) (eqb file 2) _ _ (is 2 c) (λ _. by_test (P file) (eqb file 3) _ _ (is 3 d) (λ _. e file))))
  where
    is : (n : ℕ) {ns : List ℕ} → P n ns → eqb file n ≡ true → P file ns
    is n {ns} p h = subst (λ m. P m ns) (sym (eqb-true file n h)) p
