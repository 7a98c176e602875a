use Rattle.keys.proofs.SiteLaws.{plain_turn}
use Rattle.keys.proofs.sites.site_plain.Goals as goal

pub loop-look-init : goal.loop-look-init
loop-look-init c = search plain_turn

pub look_at-requires : goal.look_at-requires
look_at-requires c = search plain_turn

pub returns-then-look-key : goal.returns-then-look-key
returns-then-look-key c = search plain_turn

pub overflow_add-p : goal.overflow_add-p
overflow_add-p c = search plain_turn

pub loop-look-smaller : goal.loop-look-smaller
loop-look-smaller c = search plain_turn

pub loop-look-preserved : goal.loop-look-preserved
loop-look-preserved c = search plain_turn

pub returns : goal.returns
returns c = search plain_turn
