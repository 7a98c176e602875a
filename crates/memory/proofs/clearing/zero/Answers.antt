-- `zero` meets its contract. Assumes nothing.
use Rattle.memory.specs.Hold.{zeros}
use Rattle.memory.proofs.clearing.zero.Goals as goal

pub returns : goal.returns
unfolding zeros
returns c = c.fill.ensures.after (λ y e. e)
