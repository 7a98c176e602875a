use Rattle.contents.proofs.CountLaws.{counted_turn}
use Rattle.contents.proofs.counts.check_counts.Goals as goal

pub is_miscount-requires : goal.is_miscount-requires
is_miscount-requires c = search counted_turn

pub returns-then-is_miscount : goal.returns-then-is_miscount
returns-then-is_miscount c = search counted_turn

pub overflow_add-i : goal.overflow_add-i
overflow_add-i c = search counted_turn

pub loop-field-smaller : goal.loop-field-smaller
loop-field-smaller c = search counted_turn

pub loop-field-preserved : goal.loop-field-preserved
loop-field-preserved c = search counted_turn

pub returns : goal.returns
returns c = search counted_turn
