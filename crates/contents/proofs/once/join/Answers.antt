use Rattle.contents.proofs.ApartLaws.{join_ways}
use Rattle.contents.proofs.once.join.Goals as goal

pub returns-then-b-j : goal.returns-then-b-j
returns-then-b-j c = λ z. search join_ways

pub returns : goal.returns
returns c = λ z. search join_ways
