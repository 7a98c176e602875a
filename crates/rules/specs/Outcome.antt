-- What a file comes to: a value, or a refusal with its place.
use Rattle.std.specs.Prelude.{ℕ, ◌+◌, List, [], ◌∷◌}
use Rattle.base.specs.Check.{Check, ok, no, Passed}
use Rattle.base.specs.declared.Fault.{Fault}

-- a value, or the file (1 dataset, 2 update, 3 result, 0 none), the record in it (from 1, 0 none) and the fault that it is refused with
pub data Outcome (A : Type 0) : Type 0 where
  done : A → Outcome A
  refused : ℕ → ℕ → Fault → Outcome A

-- one after the other: the first refusal decides
unfoldable pub and_then : {A B : Type 0} → Outcome A → (A → Outcome B) → Outcome B
and_then (done a) k = k a
and_then (refused file n x) k = refused file n x

-- a test of record n of a file
unfoldable pub at : {A : Type 0} → ℕ → ℕ → Check A → Outcome A
at file n (ok a) = done a
at file n (no x) = refused file n x

-- the same test of record after record, from number n on
unfoldable pub every_record : {R : Type 0} → (R → Passed) → ℕ → ℕ → List R → Outcome (Unit {0})
every_record test file n [] = done tt
every_record test file n (r ∷ rs) = and_then (at file n (test r)) (λ _. every_record test file (n + 1) rs)
