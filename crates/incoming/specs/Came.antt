-- What the first pass over an update comes to.
use Rattle.std.specs.Prelude.{ℕ, ◌+◌, ◌<◌, ◌≤◌, ◌≡◌, List, [], length, Result, Ok, Err}
use Rattle.base.specs.Verdict.{refusal}
use Rattle.base.specs.declared.Fault.{Fault}
use Rattle.base.specs.declared.Refusal.{Refusal}
use Rattle.skeleton.specs.File.{records_from}
use Rattle.rules.specs.Record.{Rec}
use Rattle.rules.specs.Outcome.{Outcome, done, refused}
use Rattle.rules.specs.File.{update_test, taken}
use Rattle.rules.specs.declared.Mode.TheVariants.{InUpdate}
use Rattle.opening.specs.Carried.{first_two}

-- the records from byte p on, the first of which has number n, each tested on its own
unfoldable pub third_on : List ℕ → ℕ → ℕ → Outcome (List Rec)
third_on u n p = taken update_test 2 2 n [] (records_from u p)

-- what is known once the record at p was tested, whichever number it has: where the others begin, or its fault
unfoldable pub Checked : List ℕ → ℕ → Result ℕ Fault → Type 0
Checked u p (Ok e) = (p < e) × (e ≤ length u) × ((n : ℕ) → 3 ≤ n → third_on u n p ≡ third_on u (n + 1) e)
Checked u p (Err x) = (n : ℕ) → 3 ≤ n → third_on u n p ≡ refused 2 n x

-- the place that an outcome is, 0 where it is refused
abbrev pub place_in : Outcome ℕ → ℕ
place_in (done p) = p
place_in (refused file n x) = 0

-- where the records after the second begin; 0 where the first two are refused
unfoldable pub behind_two : List ℕ → ℕ
behind_two u = place_in (first_two 2 InUpdate u)

-- what code answers: where the records after the second begin, or the refusal
unfoldable pub came_by : {A : Type 0} → ℕ → Outcome A → Result ℕ Refusal
came_by start (done a) = Ok start
came_by start (refused file n x) = Err (refusal n x)
