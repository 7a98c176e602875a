-- `u24_at` meets its contract. Assumes nothing.
use Rattle.cells.proofs.CellLaws.{number_ways}
use Rattle.cells.proofs.cell.u24_at.Goals as goal

pub returns : goal.returns
returns c = (search number_ways, search number_ways)
