-- How tests and outcomes that refuse with certain numbers only are put together. Assumes nothing.
use Prim.Native.Nat.{ℕ, ◌+◌, ◌<◌}
use mathlib.Core.Path.{◌≡◌, refl}
use mathlib.Core.Bool.{Bool, true, false}
use mathlib.Core.List.{List, [], ◌∷◌}
use native.Mathlib.Omega.{arith}
use Rattle.base.specs.Choice.{pick}
use Rattle.base.specs.Check.{Check, ok, no, bind, in_field, Passed, pass, passed}
use Rattle.base.specs.Keys.{same, among, join, leave}
use Rattle.base.specs.Lists.{each}
use Rattle.rules.specs.Outcome.{Outcome, done, refused, and_then, at, every_record}
use Rattle.numbers.specs.Refusals.{is_in}
use Rattle.numbers.specs.Limited.{LimitedCheck, limited_ok, limited_no, LimitedOutcome, limited_done, limited_refused}
use Rattle.numbers.proofs.Lists.{each_passes, all_in, in_wider, names, named_right}

-- ---- checks

-- more numbers
pub limited_wider {ℓ} : {A : Type ℓ} (ns may : List ℕ) (m : Check A) → all_in ns may ≡ true → LimitedCheck ns m → LimitedCheck may m
limited_wider ns may (ok a) h p = limited_ok
limited_wider ns may (no x) h (limited_no e) = limited_no (in_wider x.number ns may h e)

module _ {may : List ℕ} where
  -- a choice
  pub limited_pick {ℓ} : {A : Type ℓ} (b : Bool) (x y : Check A) → LimitedCheck may x → LimitedCheck may y → LimitedCheck may (pick b x y)
  limited_pick true x y p q = p
  limited_pick false x y p q = q

  -- one test after the other
  pub limited_bind {ℓ κ} : {A : Type ℓ} {B : Type κ} (m : Check A) (k : A → Check B) → LimitedCheck may m → ((a : A) → LimitedCheck may (k a)) → LimitedCheck may (bind m k)
  unfolding bind
  limited_bind (ok a) k p q = q a
  limited_bind (no x) k (limited_no e) q = limited_no e

  -- a test in a field
  pub limited_field : {A : Type 0} (i : ℕ) (m : Check A) → LimitedCheck may m → LimitedCheck may (in_field i m)
  unfolding in_field
  limited_field i (ok a) p = limited_ok
  limited_field i (no x) (limited_no e) = limited_no e

  -- a test of which only the refusal matters
  pub limited_passed : {A : Type 0} (m : Check A) → LimitedCheck may m → LimitedCheck may (passed m)
  unfolding passed
  limited_passed m p = limited_bind m (λ _. pass) p (λ _. limited_ok)

-- ---- keys

-- a thing joins
pub limited_join : {A : Type 0} (key : A → List ℕ) (j : ℕ) (x : A) (xs : List A) → LimitedCheck (7 ∷ []) (join key j x xs)
unfolding join is_in
limited_join key j x xs = limited_pick (among (key x) (each key xs)) _ _ (limited_no refl) limited_ok

-- a thing leaves
pub limited_leave : {A : Type 0} (key : A → List ℕ) (j : ℕ) (k : List ℕ) (xs : List A) → LimitedCheck (9 ∷ []) (leave key j k xs)
unfolding leave is_in
limited_leave key j k [] = limited_no refl
limited_leave key j k (x ∷ xs) = limited_pick (same (key x) k) _ _ limited_ok (limited_bind (leave key j k xs) _ (limited_leave key j k xs) (λ ys. limited_ok))

-- ---- outcomes

module _ {may : ℕ → List ℕ} where
  -- one after the other
  pub limited_then : {A B : Type 0} (m : Outcome A) (k : A → Outcome B) → LimitedOutcome may m → ((a : A) → LimitedOutcome may (k a)) → LimitedOutcome may (and_then m k)
  unfolding and_then
  limited_then (done a) k p q = q a
  limited_then (refused file n x) k (limited_refused e r) q = limited_refused e r

  -- a choice
  pub limited_choice : {A : Type 0} (b : Bool) (x y : Outcome A) → LimitedOutcome may x → LimitedOutcome may y → LimitedOutcome may (pick b x y)
  limited_choice true x y p q = p
  limited_choice false x y p q = q

  module _ (ns : List ℕ) (file : ℕ) (listed : all_in ns (may file) ≡ true) (named : each_passes names ns ≡ true) where
    -- a test of a record
    pub limited_at : {A : Type 0} (n : ℕ) (m : Check A) → 0 < n → LimitedCheck ns m → LimitedOutcome may (at file n m)
    unfolding at
    limited_at n (ok a) h p = limited_done
    limited_at n (no x) h (limited_no e) = limited_refused (in_wider x.number ns (may file) listed e) (named_right x.number n ns named e h)

    -- the same test of record after record
    pub limited_every : {R : Type 0} (test : R → Passed) (n : ℕ) (rs : List R) → 0 < n → ((r : R) → LimitedCheck ns (test r)) → LimitedOutcome may (every_record test file n rs)
    unfolding every_record
    limited_every test n [] h p = limited_done
    limited_every test n (r ∷ rs) h p = limited_then (at file n (test r)) _ (limited_at n (test r) h (p r)) (λ _. limited_every test (n + 1) rs (omega arith) p)
