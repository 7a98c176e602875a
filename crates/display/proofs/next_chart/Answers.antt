-- `next_chart` meets its contract. Assumes nothing.
use Rattle.display.proofs.PoolLaws.{chart_stays, chart_moves}
use Rattle.display.proofs.next_chart.Goals as goal

pub returns-then-a-ne0 : goal.returns-then-a-ne0
returns-then-a-ne0 c = chart_stays _ _ c.if-a-ne0.true

pub returns : goal.returns
returns c = chart_moves _ _ c.if-a-ne0.false
