use Rattle.skeleton.proofs.LeaderLaws.{leader_ways}
use Rattle.skeleton.proofs.leader.leader.Goals as goal

pub returns-then-s-lt24 : goal.returns-then-s-lt24
returns-then-s-lt24 c = search leader_ways

pub returns-then-not-leads : goal.returns-then-not-leads
returns-then-not-leads c = search leader_ways

pub returns : goal.returns
returns c = search leader_ways
