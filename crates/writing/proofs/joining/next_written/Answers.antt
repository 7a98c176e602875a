use Rattle.writing.proofs.JoiningLaws.{next_turn}
use Rattle.writing.proofs.joining.next_written.Goals as goal

pub overflow_sub-n : goal.overflow_sub-n
overflow_sub-n c = search next_turn

pub run_from-run-requires : goal.run_from-run-requires
run_from-run-requires c = search next_turn

pub overflow_add-result : goal.overflow_add-result
overflow_add-result c = search next_turn

pub returns-then-not-is_empty_list : goal.returns-then-not-is_empty_list
returns-then-not-is_empty_list c = search next_turn

pub loop-field-smaller : goal.loop-field-smaller
loop-field-smaller c = search next_turn

pub loop-field-preserved : goal.loop-field-preserved
loop-field-preserved c = search next_turn

pub returns : goal.returns
returns c = search next_turn
