-- `begin` meets its contract. Assumes nothing.
use Rattle.display.proofs.PoolLaws.{begun}
use Rattle.display.proofs.begin.Goals as goal

pub returns : goal.returns
returns c = begun _ _ _ _ c.write-answer.ensures
