use Rattle.book.proofs.RcidLaws.{sieve_ways}
use Rattle.book.proofs.rcids.sift.Goals as goal

pub returns : goal.returns
returns c = search sieve_ways
