-- `leave_cells` meets its contract. Assumes nothing.
use Rattle.cells.proofs.ActLaws.{act_ways}
use Rattle.cells.proofs.acting.leave_cells.Goals as goal

pub returns-in_default : goal.returns-in_default
returns-in_default c = search act_ways

pub returns : goal.returns
returns c = search act_ways
