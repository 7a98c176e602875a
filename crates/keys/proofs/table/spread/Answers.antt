use Rattle.keys.proofs.TableLaws.{spread_turn}
use Rattle.keys.proofs.table.spread.Goals as goal

pub loop-look-init : goal.loop-look-init
loop-look-init c = search spread_turn

pub look_at-requires : goal.look_at-requires
look_at-requires c = search spread_turn

pub overflow_cast-p : goal.overflow_cast-p
overflow_cast-p c = search spread_turn

pub put-requires : goal.put-requires
put-requires c = search spread_turn

pub overflow_add-i : goal.overflow_add-i
overflow_add-i c = search spread_turn

pub overflow_add-p : goal.overflow_add-p
overflow_add-p c = search spread_turn

pub loop-look-smaller : goal.loop-look-smaller
loop-look-smaller c = search spread_turn

pub loop-look-preserved : goal.loop-look-preserved
loop-look-preserved c = (search spread_turn, search spread_turn, search spread_turn, search spread_turn, search spread_turn)

pub used-requires : goal.used-requires
used-requires c = search spread_turn

pub returns : goal.returns
returns c = search spread_turn
