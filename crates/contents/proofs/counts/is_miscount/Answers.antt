use Rattle.contents.proofs.CountLaws.{miscount_ways}
use Rattle.contents.proofs.counts.is_miscount.Goals as goal

pub le8-requires : goal.le8-requires
le8-requires c = search miscount_ways

pub returns-then-le8-eq2 : goal.returns-then-le8-eq2
returns-then-le8-eq2 c = search miscount_ways

pub le16-requires : goal.le16-requires
le16-requires c = search miscount_ways

pub returns : goal.returns
returns c = search miscount_ways
