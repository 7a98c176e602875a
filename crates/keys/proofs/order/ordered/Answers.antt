use Rattle.keys.proofs.OrderLaws.{ordered_ways}
use Rattle.keys.proofs.order.ordered.Goals as goal

pub returns-else-map-gt32768 : goal.returns-else-map-gt32768
returns-else-map-gt32768 c = search ordered_ways
