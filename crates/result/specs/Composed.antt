-- All records of a result behind the third.
use Rattle.std.specs.Prelude.{ℕ, ◌+◌, ◌≤◌, ◌<◌, ◌≡◌, List, length, Result, Ok, Err}
use Rattle.base.specs.Check.{fault}
use Rattle.memory.specs.Put.{put}
use Rattle.skeleton.specs.File.{Field}
use Rattle.rules.specs.Record.{Rec}
use Rattle.rules.specs.Outcome.{Outcome, done, refused, and_then}
use Rattle.updates.specs.Streamed.{result_records, result_references}
use Rattle.keys.specs.Listed.{keys_from}
use Rattle.version.specs.Areas.{flag_area}
use Rattle.history.specs.Flags.{Flags}
use Rattle.result.specs.Rest.{rest_bytes, rest_length}
use Rattle.result.specs.declared.Composed.{Composed}

-- the workspace w holds the flags of the keys that the update u names from us on, for another pass
pub record Again (u : List ℕ) (us : ℕ) (w : List ℕ) (r : Result Composed ℕ) : Type 0 where
  pub flags : (c : Composed) → r ≡ Ok c → Flags (keys_from u us) (flag_area w)

-- what the code answers, as an outcome: 11 of record k of the result; or its length and the count of its records behind the third
unfoldable pub said_by : Result Composed ℕ → Outcome (ℕ × ℕ)
said_by (Err k) = refused 3 k (fault 11 0 0)
said_by (Ok c) = done (c.length, c.count)

-- an outcome without the field and the tuple of its refusal, which no answer of an update tells
unfoldable pub unplaced : {A : Type 0} → Outcome A → Outcome A
unplaced (done a) = done a
unplaced (refused file n x) = refused file n (fault x.number 0 0)

-- the references of the result, and then its length, where its records behind the third begin at `at`, and their count
unfoldable pub composed_of : List Rec → List (List Field) → ℕ → Outcome (ℕ × ℕ)
composed_of ds us at = and_then (unplaced (result_references ds us)) (λ _. done (at + rest_length ds us, length (result_records ds us)))

-- so it is; and the records stand from `at` on, where there is room; from behind the end on nothing is written
pub record ComposedBy (ds : List Rec) (us : List (List Field)) (at : ℕ) (o : List ℕ) (r : Result Composed ℕ) (o' : List ℕ) : Type 0 where
  pub said : said_by r ≡ composed_of ds us at
  pub stands : (c : Composed) → r ≡ Ok c → c.length ≤ length o → o' ≡ put at (rest_bytes ds us) o
  pub kept : (c : Composed) → r ≡ Ok c → length o < at → o' ≡ o
