-- The answer to number 11 of a dataset.
use Rattle.std.specs.Prelude.{ℕ, ◌≡◌, List, Result, Ok, Err}
use Rattle.base.specs.Check.{fault}
use Rattle.rules.specs.Outcome.{Outcome, done, refused}
use Rattle.rules.specs.Record.{Rec}
use Rattle.keys.specs.Listed.{keys_from}
use Rattle.keys.specs.Numbered.{Numbered}
use Rattle.keys.specs.Standing.{references_from}
use Rattle.references.specs.declared.dataset.LooseReference.{LooseReference}

-- what the code answers, as an outcome: all stand, or 11 of a record of the dataset, at a field and a tuple
unfoldable pub said_by : Result (Unit {0}) LooseReference → Outcome (Unit {0})
said_by (Ok u) = done tt
said_by (Err x) = refused 1 x.rec (fault 11 x.field x.tuple)

-- the answer for the records from start on, the fourth of the file and those after it, where recs are what they say
unfoldable pub Answers : List ℕ → ℕ → Result (Unit {0}) LooseReference → Type 0
Answers f start r = (recs : List Rec) → Numbered recs (keys_from f start) → said_by r ≡ references_from recs f start 0
