use Rattle.listing.proofs.DigitLaws.{counted_done}
use Rattle.listing.proofs.DigitLaws.{digits_turn}
use Rattle.listing.proofs.text.digits_of.Goals as goal

pub loop-rest-init : goal.loop-rest-init
loop-rest-init c = search digits_turn

pub overflow_add-w : goal.overflow_add-w
overflow_add-w c = search digits_turn

pub loop-rest-smaller : goal.loop-rest-smaller
loop-rest-smaller c = search digits_turn

pub loop-rest-preserved : goal.loop-rest-preserved
loop-rest-preserved c = search digits_turn

pub returns : goal.returns
returns c = counted_done _ _ _ c.loop-rest.invariant c.loop-rest-test.false c.ranges.x.fits
