use Rattle.book.proofs.RcidLaws.{enter_ways}
use Rattle.book.proofs.rcids.enter.Goals as goal

pub returns-then-j-gt0 : goal.returns-then-j-gt0
returns-then-j-gt0 c = search enter_ways

pub returns-else-j-gt0 : goal.returns-else-j-gt0
returns-else-j-gt0 c = search enter_ways
