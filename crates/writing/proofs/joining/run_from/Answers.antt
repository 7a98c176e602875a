use Rattle.writing.proofs.JoiningLaws.{run_turn}
use Rattle.writing.proofs.joining.run_from.Goals as goal

pub returns-then-not-is_list : goal.returns-then-not-is_list
returns-then-not-is_list c = search run_turn

pub loop-field-init : goal.loop-field-init
loop-field-init c = search run_turn

pub overflow_sub-n : goal.overflow_sub-n
overflow_sub-n c = search run_turn

pub returns-then-not-goes_on : goal.returns-then-not-goes_on
returns-then-not-goes_on c = search run_turn

pub overflow_add-size : goal.overflow_add-size
overflow_add-size c = search run_turn

pub loop-field-smaller : goal.loop-field-smaller
loop-field-smaller c = search run_turn

pub loop-field-preserved : goal.loop-field-preserved
loop-field-preserved c = search run_turn

pub returns : goal.returns
returns c = search run_turn
