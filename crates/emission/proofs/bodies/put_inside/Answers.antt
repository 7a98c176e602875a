use Rattle.emission.proofs.BodiesLaws.{put_inside}
use Rattle.emission.proofs.BodiesLaws.{put_ways}
use borrow.Author.Rules.{rules}
use Rattle.emission.proofs.bodies.put_inside.Goals as goal

pub returns-then-k-eq0 : goal.returns-then-k-eq0
returns-then-k-eq0 c = search put_ways

pub put_part-requires : goal.put_part-requires
put_part-requires c = (search rules, put_inside _ _ _ _ c.inside-k.ensures c.if-k-eq0.false)

pub returns-else-k-eq0 : goal.returns-else-k-eq0
returns-else-k-eq0 c = search put_ways
