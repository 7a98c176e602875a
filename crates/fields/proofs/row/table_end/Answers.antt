use mathlib.Core.Path.{◌∙◌}
use Rattle.fields.proofs.RowLaws.{rows_turn}
use Rattle.fields.proofs.row.table_end.Goals as goal

pub returns-in_err-p : goal.returns-in_err-p
returns-in_err-p c = c.from_residual.ensures ∙ search (rows_turn, c.in_err-p.was)

pub loop-j-preserved : goal.loop-j-preserved
loop-j-preserved c = (search (rows_turn, c.in_ok-p.was), search (rows_turn, c.in_ok-p.was))

pub returns : goal.returns
returns c = search rows_turn
