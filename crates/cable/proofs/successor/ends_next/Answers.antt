-- `ends_next` meets its contract. Assumes nothing.
use Rattle.cable.proofs.SuccessorLaws.{next_ways}
use Rattle.cable.proofs.successor.ends_next.Goals as goal

pub returns-then-b-lt13 : goal.returns-then-b-lt13
returns-then-b-lt13 c = search next_ways

pub returns-then-new-old : goal.returns-then-new-old
returns-then-new-old c = search next_ways

pub returns-then-end-long : goal.returns-then-end-long
returns-then-end-long c = search next_ways

pub returns : goal.returns
returns c = search next_ways
