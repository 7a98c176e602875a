-- The walk over the records of a dataset after the third.
use Rattle.std.specs.Prelude.{ℕ, ◌+◌, ◌<◌, ◌≤◌, ◌≡◌, List, [], length, Result, Ok, Err}
use Rattle.base.specs.Choice.{larger_of}
use Rattle.base.specs.Verdict.{refusal}
use Rattle.base.specs.declared.Fault.{Fault}
use Rattle.base.specs.declared.Refusal.{Refusal}
use Rattle.rules.specs.Outcome.{Outcome, done, refused}
use Rattle.keys.specs.Once.{Once}
use Rattle.book.specs.First.{Ahead}
use Rattle.keys.specs.Standing.{outcome_from, Standing}

-- what numbers 1 to 7 of the records from start on come to
abbrev pub whole_from : List ℕ → ℕ → Outcome (Unit {0})
whole_from f start = outcome_from f start 0 []

-- what is known once the record at p, of so many bytes, was tested: with its key the walk goes on behind it, else the whole comes to its refusal
unfoldable pub Went : List ℕ → ℕ → ℕ → ℕ → ℕ → ℕ → List ℕ → ℕ → Result ℕ Fault → Type 0
Went f start p len m top t w (Ok k) =
    Standing f start (p + len) (m + 1) (larger_of top k) (whole_from f start) × Once f start (m + 1) (larger_of top k) t × Ahead f start (m + 1) w
Went f start p len m top t w (Err x) = refused 1 (m + 4) x ≡ whole_from f start

-- the same where it was found to have so many bytes: it lies in the file
unfoldable pub Admitted : List ℕ → ℕ → ℕ → ℕ → ℕ → List ℕ → ℕ → Result (ℕ × ℕ) Fault → Type 0
Admitted f start p m top t w (Ok x) = (0 < x.0) × (p + x.0 ≤ length f) × Went f start p x.0 m top t w (Ok x.1)
Admitted f start p m top t w (Err x) = refused 1 (m + 4) x ≡ whole_from f start

-- what code answers: how many records there are, or the refusal
unfoldable pub walked_by : ℕ → Outcome (Unit {0}) → Result ℕ Refusal
walked_by count (done u) = Ok count
walked_by count (refused file n x) = Err (refusal n x)
