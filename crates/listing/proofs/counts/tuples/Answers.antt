use Rattle.listing.proofs.CountLaws.{tuples_turn}
use Rattle.listing.proofs.counts.tuples.Goals as goal

pub loop-field-init : goal.loop-field-init
loop-field-init c = search tuples_turn

pub place_at-requires : goal.place_at-requires
place_at-requires c = search tuples_turn

pub overflow_sub-field : goal.overflow_sub-field
overflow_sub-field c = search tuples_turn

pub tuples_of-n-requires : goal.tuples_of-n-requires
tuples_of-n-requires c = search tuples_turn

pub overflow_add-n : goal.overflow_add-n
overflow_add-n c = search tuples_turn

pub loop-field-smaller : goal.loop-field-smaller
loop-field-smaller c = search tuples_turn

pub loop-field-preserved : goal.loop-field-preserved
loop-field-preserved c = search tuples_turn

pub returns : goal.returns
returns c = search tuples_turn
