use Rattle.records.proofs.RowsLaws.{row_turn}
use Rattle.records.proofs.rows.row_after.Goals as goal

pub returns-then-tags-j : goal.returns-then-tags-j
returns-then-tags-j c = search row_turn

pub loop-j-preserved : goal.loop-j-preserved
loop-j-preserved c = search row_turn

pub returns : goal.returns
returns c = search row_turn
