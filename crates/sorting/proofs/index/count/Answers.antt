use Rattle.sorting.proofs.IndexLaws.{count_turn}
use Rattle.sorting.proofs.index.count.Goals as goal

pub loop-look-init : goal.loop-look-init
loop-look-init c = search count_turn

pub look_at-requires : goal.look_at-requires
look_at-requires c = search count_turn

pub overflow_add-q : goal.overflow_add-q
overflow_add-q c = search count_turn

pub overflow_add-n : goal.overflow_add-n
overflow_add-n c = search count_turn

pub loop-look-smaller : goal.loop-look-smaller
loop-look-smaller c = search count_turn

pub loop-look-preserved : goal.loop-look-preserved
loop-look-preserved c = search count_turn

pub returns : goal.returns
returns c = search count_turn
