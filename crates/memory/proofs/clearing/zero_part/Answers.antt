-- `zero_part` meets its contract. Assumes nothing.
use native.Mathlib.Omega.{arith}
use Rattle.memory.proofs.HoldLaws.{zeros_lent}
use Rattle.memory.proofs.clearing.zero_part.Goals as goal

pub returns : goal.returns
returns c = zeros_lent _ _ _ _ _ (omega arith) (omega arith) (c.fill.ensures.after (λ y e. e))
