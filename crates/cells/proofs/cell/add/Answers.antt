-- `add` meets its contract. Assumes nothing.
use Rattle.cells.proofs.CellLaws.{added}
use borrow.Author.Rules.{rules}
use Rattle.cells.proofs.cell.add.Goals as goal

pub returns : goal.returns
returns c = (search rules, added _ _ _ _ _ _ c.requires c.put_cell.ensures)
