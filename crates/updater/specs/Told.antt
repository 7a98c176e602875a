-- The general record of a result, as code tells it.
use Rattle.std.specs.Prelude.{ℕ, List, Result, Ok, Err}
use Rattle.base.specs.Check.{Check, ok, no, fault}
use Rattle.base.specs.declared.Fault.{Fault}
use Rattle.skeleton.specs.File.{Field}
use Rattle.rules.specs.Written.{written_length}

-- how long it is written, or the number of its refusal, as a fault of no field
unfoldable pub general_by : Check (List Field) → Result ℕ Fault
general_by (ok fs) = Ok (written_length fs)
general_by (no x) = Err (fault x.number 0 0)
