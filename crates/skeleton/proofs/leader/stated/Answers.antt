use Rattle.skeleton.proofs.LeaderLaws.{stated_ways}
use Rattle.skeleton.proofs.leader.stated.Goals as goal

pub returns-in_default : goal.returns-in_default
returns-in_default c = search stated_ways

pub returns-in_default-number_at : goal.returns-in_default-number_at
returns-in_default-number_at c = search stated_ways

pub returns-then-s-len : goal.returns-then-s-len
returns-then-s-len c = search stated_ways

pub returns : goal.returns
returns c = search stated_ways
