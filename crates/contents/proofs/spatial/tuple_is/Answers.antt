use Rattle.contents.proofs.SpatialLaws.{tuple_is_ways}
use Rattle.contents.proofs.spatial.tuple_is.Goals as goal

pub returns-then-le8-x : goal.returns-then-le8-x
returns-then-le8-x c = search tuple_is_ways

pub returns-else-le8-x : goal.returns-else-le8-x
returns-else-le8-x c = search tuple_is_ways
