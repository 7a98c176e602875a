use Rattle.keys.proofs.PresentLaws.{half_turn}
use Rattle.keys.proofs.sites.start_near.Goals as goal

pub loop-lo-init : goal.loop-lo-init
loop-lo-init c = search half_turn

pub bounds-t-mid : goal.bounds-t-mid
bounds-t-mid c = search half_turn

pub look_at-requires : goal.look_at-requires
look_at-requires c = search half_turn

pub returns-in_default : goal.returns-in_default
returns-in_default c = search half_turn

pub loop-lo-preserved-then-look-key : goal.loop-lo-preserved-then-look-key
loop-lo-preserved-then-look-key c = search half_turn

pub loop-lo-smaller : goal.loop-lo-smaller
loop-lo-smaller c = search half_turn

pub loop-lo-preserved : goal.loop-lo-preserved
loop-lo-preserved c = search half_turn

pub returns : goal.returns
returns c = search half_turn
