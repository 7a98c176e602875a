use Rattle.skeleton.proofs.RecordLaws.{stated_at_ways}
use Rattle.skeleton.proofs.file.stated_at.Goals as goal

pub returns-then-f-at-lt24 : goal.returns-then-f-at-lt24
returns-then-f-at-lt24 c = search stated_at_ways

pub returns : goal.returns
returns c = search stated_at_ways
