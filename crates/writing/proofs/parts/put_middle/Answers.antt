use Rattle.writing.proofs.PartsLaws.{middle_first, middle_other}
use native.Mathlib.Omega.{arith}
use Rattle.writing.proofs.parts.put_middle.Goals as goal

pub returns-then-first : goal.returns-then-first
returns-then-first c = search (middle_first, arith)

pub returns-else-first : goal.returns-else-first
returns-else-first c = search (middle_other, arith)
