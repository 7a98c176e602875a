use Rattle.records.proofs.RowsLaws.{often_ways, often_none}
use native.Mathlib.Omega.{arith}
use Rattle.records.proofs.rows.stands_often.Goals as goal

pub returns-in-1229865299 : goal.returns-in-1229865299
returns-in-1229865299 c = search often_ways

pub returns-in_default : goal.returns-in_default
returns-in_default c = grind (arith, often_none)
