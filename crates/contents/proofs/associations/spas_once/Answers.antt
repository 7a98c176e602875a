use Rattle.contents.proofs.SpasLaws.{spas_turn}
use Rattle.contents.proofs.associations.spas_once.Goals as goal

pub returns-then-not-is_new : goal.returns-then-not-is_new
returns-then-not-is_new c = search spas_turn

pub loop-j-preserved : goal.loop-j-preserved
loop-j-preserved c = (search spas_turn, search spas_turn)

pub returns : goal.returns
returns c = search spas_turn
