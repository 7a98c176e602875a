use Rattle.contents.proofs.SpatialLaws.{has_turn}
use Rattle.contents.proofs.spatial.tuples_have.Goals as goal

pub returns-then-tuple_is : goal.returns-then-tuple_is
returns-then-tuple_is c = search has_turn

pub loop-j-preserved : goal.loop-j-preserved
loop-j-preserved c = search has_turn

pub returns : goal.returns
returns c = search has_turn
