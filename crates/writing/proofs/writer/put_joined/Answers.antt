use Rattle.writing.proofs.WriterLaws.{joins_turn}
use Rattle.writing.proofs.writer.put_joined.Goals as goal

pub returns-then-not-is_list : goal.returns-then-not-is_list
returns-then-not-is_list c = search joins_turn

pub loop-field-init : goal.loop-field-init
loop-field-init c = search joins_turn

pub overflow_sub-n : goal.overflow_sub-n
overflow_sub-n c = search joins_turn

pub returns-then-not-goes_on : goal.returns-then-not-goes_on
returns-then-not-goes_on c = search joins_turn

pub put_part-p-requires : goal.put_part-p-requires
put_part-p-requires c = search joins_turn

pub loop-field-smaller : goal.loop-field-smaller
loop-field-smaller c = search joins_turn

pub loop-field-preserved : goal.loop-field-preserved
loop-field-preserved c = search joins_turn

pub returns : goal.returns
returns c = search joins_turn
