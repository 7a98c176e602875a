use Rattle.emission.proofs.ListLaws.{spatial_ways}
use Rattle.emission.proofs.lists.put_spatial.Goals as goal

pub returns-then-n-eq0 : goal.returns-then-n-eq0
returns-then-n-eq0 c = search spatial_ways

pub put_bodies-p-requires : goal.put_bodies-p-requires
put_bodies-p-requires c = search spatial_ways

pub put_byte-requires : goal.put_byte-requires
put_byte-requires c = search spatial_ways

pub returns : goal.returns
returns c = search spatial_ways
