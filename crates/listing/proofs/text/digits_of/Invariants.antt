use Rattle.listing.proofs.DigitLaws.{Counted}
use Rattle.listing.proofs.text.digits_of.Given as goal

abbrev pub invariant-loop-rest : goal.invariant-loop-rest
invariant-loop-rest l = Counted l.x l.rest l.w

abbrev pub decreases-loop-rest : goal.decreases-loop-rest
decreases-loop-rest l = l.rest
