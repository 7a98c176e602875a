-- The length of a written file, record by record.
use Rattle.std.specs.Prelude.{ℕ, ◌+◌, List, Result, Ok, Err}
use Rattle.base.specs.Check.{fault}
use Rattle.skeleton.specs.File.{Field}
use Rattle.rules.specs.Outcome.{Outcome, done, refused, and_then, every_record}
use Rattle.rules.specs.Written.{number12}
use Rattle.writer.specs.Forms.{lengths}

-- what the code answers, as an outcome: the length, or 12 of record n of the dataset
unfoldable pub said_by : Result ℕ ℕ → Outcome ℕ
said_by (Ok size) = done size
said_by (Err n) = refused 1 n (fault 12 0 0)

-- number 12 of the records from number n on, where those before them have `total` bytes, and then the length of all
unfoldable pub measured_from : ℕ → ℕ → List (List Field) → Outcome ℕ
measured_from n total fss = and_then (every_record number12 1 n fss) (λ _. done (total + lengths fss))
