-- A result that is made record by record: what is left of it, and what was made so far.
use Rattle.std.specs.Prelude.{ℕ, suc, ◌+◌, ◌-◌, ◌≤◌, ◌≡◌, List, ◌++◌, length}
use Rattle.base.specs.Check.{Passed}
use Rattle.base.specs.Lists.{gather}
use Rattle.memory.specs.Wrote.{Wrote}
use Rattle.skeleton.specs.File.{Field}
use Rattle.rules.specs.Record.{Rec}
use Rattle.rules.specs.Outcome.{done, every_record}
use Rattle.sequence.specs.Stream.{places, kept, joined, stream}
use Rattle.updates.specs.Acts.{chart}
use Rattle.updates.specs.Streamed.{record_bytes, total, record_length}

-- ---- what is left, where the dataset's records are ds and the update's are us

module _ (ds : List Rec) (us : List (List Field)) where
  -- from the kind with place q on
  unfoldable pub left_kinds : ℕ → List Rec
  left_kinds q = stream chart (places q (5 - q)) ds us

  -- of kind q the old records from these on, the inserted ones, and then the later kinds
  unfoldable pub left_old : ℕ → List Rec → List Rec
  left_old q old = kept chart q us old ++ (joined chart q us ++ left_kinds (suc q))

  -- of kind q the records that these update records insert, and then the later kinds
  unfoldable pub left_new : ℕ → List (List Field) → List Rec
  left_new q new = joined chart q new ++ left_kinds (suc q)

-- ---- what was made

-- of the records `whole`, these are left; m were made and passed the test, and are len bytes with the `at` bytes before them, written over `before`, which is out now, where there is room
pub record Composing (test : Rec → Passed) (whole left : List Rec) (at m len : ℕ) (before out : List ℕ) : Type 0 where
  pub made : List Rec
  pub split : made ++ left ≡ whole
  pub count : m ≡ length made
  pub long : len ≡ at + total record_length made
  pub passed : every_record test 3 (m + 4) left ≡ every_record test 3 4 whole
  pub same : length out ≡ length before
  pub wrote : len ≤ length before → Wrote at (gather record_bytes made) before len out

-- all of them were made and passed
pub record Complete (test : Rec → Passed) (whole : List Rec) (at m len : ℕ) (before out : List ℕ) : Type 0 where
  pub passed : every_record test 3 4 whole ≡ done tt
  pub count : m ≡ length whole
  pub long : len ≡ at + total record_length whole
  pub wrote : len ≤ length before → Wrote at (gather record_bytes whole) before len out
