-- `leave_inas` meets its contract. Assumes nothing.
use Rattle.cells.proofs.ActLaws.{act_ways, total_ways}
use Rattle.cells.proofs.inas.leave_inas.Goals as goal

pub overflow_sub-result-2 : goal.overflow_sub-result-2
overflow_sub-result-2 c = search total_ways

pub returns-in_default : goal.returns-in_default
returns-in_default c = (search act_ways, search total_ways)

pub returns : goal.returns
returns c = (search act_ways, search total_ways)
