use Rattle.emission.proofs.BodiesLaws.{fields_ways}
use Rattle.emission.proofs.bodies.put_inas_fields.Goals as goal

pub loop-i-init : goal.loop-i-init
loop-i-init c = search fields_ways

pub put_body-q-requires : goal.put_body-q-requires
put_body-q-requires c = search fields_ways

pub put_byte-p-requires : goal.put_byte-p-requires
put_byte-p-requires c = search fields_ways

pub loop-i-preserved : goal.loop-i-preserved
loop-i-preserved c = search fields_ways

pub shape_of-out : goal.shape_of-out
shape_of-out c = search fields_ways

pub returns : goal.returns
returns c = search fields_ways
