use Rattle.following.proofs.MergingLaws.{entry_ways}
use Rattle.following.proofs.merging.put_entry_if.Goals as goal

pub returns-then-n-eq0 : goal.returns-then-n-eq0
returns-then-n-eq0 c = search entry_ways

pub put_entry-requires : goal.put_entry-requires
put_entry-requires c = search entry_ways

pub returns-else-n-eq0 : goal.returns-else-n-eq0
returns-else-n-eq0 c = search entry_ways
