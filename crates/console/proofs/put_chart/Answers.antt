-- `put_chart` meets its contract. Assumes nothing.
use Rattle.console.proofs.ShownLaws.{chart_left, chart_put}
use Rattle.console.proofs.put_chart.Goals as goal

pub returns-then-out-lt2 : goal.returns-then-out-lt2
returns-then-out-lt2 c = search chart_left

pub returns : goal.returns
returns c = search chart_put
