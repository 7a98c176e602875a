use Rattle.contents.proofs.CountLaws.{sent_in_ways}
use Rattle.contents.proofs.counts.sent_in.Goals as goal

pub returns-then-tag-eq-C2IL : goal.returns-then-tag-eq-C2IL
returns-then-tag-eq-C2IL c = search sent_in_ways

pub returns-else-tag-eq-C2IL : goal.returns-else-tag-eq-C2IL
returns-else-tag-eq-C2IL c = search sent_in_ways
