use Rattle.emission.proofs.BodiesLaws.{body_ways}
use Rattle.emission.proofs.bodies.put_body.Goals as goal

pub put_inside-requires : goal.put_inside-requires
put_inside-requires c = search body_ways

pub returns-then-c-i-eq0 : goal.returns-then-c-i-eq0
returns-then-c-i-eq0 c = search body_ways

pub put_inside-requires-else-c-i-eq0 : goal.put_inside-requires-else-c-i-eq0
put_inside-requires-else-c-i-eq0 c = search body_ways

pub returns-else-c-i-eq0 : goal.returns-else-c-i-eq0
returns-else-c-i-eq0 c = search body_ways
