-- `close_gap` meets its contract. Assumes nothing.
use Rattle.memory.specs.Splice.{spliced_in}
use native.Mathlib.Omega.{arith}
use Rattle.memory.proofs.splicing.close_gap.Goals as goal

pub returns : goal.returns
unfolding spliced_in
returns c = (omega arith, c.move_down.ensures)
