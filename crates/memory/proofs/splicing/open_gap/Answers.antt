-- `open_gap` meets its contract. Assumes nothing.
use Rattle.memory.specs.Splice.{opened}
use native.Mathlib.Omega.{arith}
use Rattle.memory.proofs.splicing.open_gap.Goals as goal

pub returns : goal.returns
unfolding opened
returns c = (omega arith, c.move_up.ensures)
