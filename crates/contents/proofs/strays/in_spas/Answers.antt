use Rattle.contents.proofs.StrayLaws.{spas_risen}
use Rattle.contents.proofs.strays.in_spas.Goals as goal

pub loop-j-init : goal.loop-j-init
loop-j-init c = search spas_risen

pub loop-j-preserved : goal.loop-j-preserved
loop-j-preserved c = search spas_risen

pub returns : goal.returns
returns c = search spas_risen
