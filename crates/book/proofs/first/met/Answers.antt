use Rattle.book.proofs.FirstLaws.{met_ways}
use Rattle.book.proofs.first.met.Goals as goal

pub returns-then-j-t : goal.returns-then-j-t
returns-then-j-t c = search met_ways
