use Rattle.following.proofs.MergingLaws.{if_ways}
use Rattle.following.proofs.merging.one_if.Goals as goal

pub returns-then-n-eq0 : goal.returns-then-n-eq0
returns-then-n-eq0 c = search if_ways

pub returns-else-n-eq0 : goal.returns-else-n-eq0
returns-else-n-eq0 c = search if_ways
