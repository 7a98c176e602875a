use Rattle.keys.proofs.OrderLaws.{seal_ways}
use Rattle.keys.proofs.order.seal.Goals as goal

pub returns-then-so : goal.returns-then-so
returns-then-so c = search seal_ways

pub returns-else-so : goal.returns-else-so
returns-else-so c = search seal_ways
