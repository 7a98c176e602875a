use Rattle.contents.proofs.CountLaws.{send_turn}
use Rattle.contents.proofs.counts.sends.Goals as goal

pub overflow_sub-field : goal.overflow_sub-field
overflow_sub-field c = search send_turn

pub returns-then-left-here : goal.returns-then-left-here
returns-then-left-here c = search send_turn

pub loop-field-smaller : goal.loop-field-smaller
loop-field-smaller c = search send_turn

pub loop-field-preserved : goal.loop-field-preserved
loop-field-preserved c = search send_turn

pub returns : goal.returns
returns c = search send_turn
