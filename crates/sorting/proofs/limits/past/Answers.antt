use Rattle.sorting.proofs.IndicesLaws.{past_none, past_some}
use native.Mathlib.Omega.{arith}
use Rattle.sorting.proofs.limits.past.Goals as goal

pub returns-then-to-at : goal.returns-then-to-at
returns-then-to-at c = past_none _ _ c.if-to-at.true

pub returns : goal.returns
returns c = past_some _ _ (omega arith)
