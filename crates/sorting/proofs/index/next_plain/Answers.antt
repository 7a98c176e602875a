use Rattle.sorting.proofs.IndexLaws.{skipping_turn}
use Rattle.sorting.proofs.index.next_plain.Goals as goal

pub loop-look-init : goal.loop-look-init
loop-look-init c = search skipping_turn

pub look_at-requires : goal.look_at-requires
look_at-requires c = search skipping_turn

pub returns-then-look-key : goal.returns-then-look-key
returns-then-look-key c = search skipping_turn

pub overflow_add-q : goal.overflow_add-q
overflow_add-q c = search skipping_turn

pub loop-look-smaller : goal.loop-look-smaller
loop-look-smaller c = search skipping_turn

pub loop-look-preserved : goal.loop-look-preserved
loop-look-preserved c = search skipping_turn

pub returns : goal.returns
returns c = search skipping_turn
