-- `join_cells` meets its contract. Assumes nothing.
use Rattle.cells.proofs.ActLaws.{act_ways}
use Rattle.cells.proofs.acting.join_cells.Goals as goal

pub returns-then-is_some : goal.returns-then-is_some
returns-then-is_some c = search act_ways

pub returns : goal.returns
returns c = search act_ways
