use Rattle.emission.proofs.BodiesLaws.{bodies_ways}
use Rattle.emission.proofs.bodies.put_bodies.Goals as goal

pub loop-i-init : goal.loop-i-init
loop-i-init c = search bodies_ways

pub put_body-p-requires : goal.put_body-p-requires
put_body-p-requires c = search bodies_ways

pub loop-i-preserved : goal.loop-i-preserved
loop-i-preserved c = search bodies_ways

pub shape_of-out : goal.shape_of-out
shape_of-out c = search bodies_ways

pub returns : goal.returns
returns c = search bodies_ways
