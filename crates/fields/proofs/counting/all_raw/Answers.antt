use Rattle.fields.proofs.RowLaws.{raw_turn}
use Rattle.fields.proofs.counting.all_raw.Goals as goal

pub loop-j-preserved : goal.loop-j-preserved
loop-j-preserved c = search raw_turn

pub returns-then-not-is_raw : goal.returns-then-not-is_raw
returns-then-not-is_raw c = search raw_turn

pub returns : goal.returns
returns c = search raw_turn
