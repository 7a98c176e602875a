use Rattle.writing.proofs.PartsLaws.{last_first, last_other}
use native.Mathlib.Omega.{arith}
use Rattle.writing.proofs.parts.put_last.Goals as goal

pub returns-then-first : goal.returns-then-first
returns-then-first c = search (last_first, arith)

pub returns-else-first : goal.returns-else-first
returns-else-first c = search (last_other, arith)
