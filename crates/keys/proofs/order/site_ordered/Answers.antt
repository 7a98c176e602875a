use Rattle.keys.proofs.SiteLaws.{ordered_turn}
use Rattle.keys.proofs.order.site_ordered.Goals as goal

pub look_at-requires : goal.look_at-requires
look_at-requires c = search ordered_turn

pub returns-then-look-key : goal.returns-then-look-key
returns-then-look-key c = search ordered_turn

pub returns-then-key-look : goal.returns-then-key-look
returns-then-key-look c = search ordered_turn

pub overflow_add-p : goal.overflow_add-p
overflow_add-p c = search ordered_turn

pub loop-look-smaller : goal.loop-look-smaller
loop-look-smaller c = search ordered_turn

pub loop-look-preserved : goal.loop-look-preserved
loop-look-preserved c = search ordered_turn

pub returns : goal.returns
returns c = search ordered_turn
