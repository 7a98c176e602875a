use Rattle.following.proofs.WholeLaws.{whole_ways}
use Rattle.following.proofs.merging.merged_length.Goals as goal

pub returns : goal.returns
returns c = search whole_ways
