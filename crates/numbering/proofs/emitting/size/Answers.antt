use Rattle.numbering.proofs.EmittingLaws.{size_ways}
use Rattle.numbering.proofs.emitting.size.Goals as goal

pub loop-i-init : goal.loop-i-init
loop-i-init c = search size_ways

pub value_length-requires : goal.value_length-requires
value_length-requires c = search size_ways

pub overflow_add-t : goal.overflow_add-t
overflow_add-t c = search size_ways

pub overflow_add-t-in-loop-i : goal.overflow_add-t-in-loop-i
overflow_add-t-in-loop-i c = search size_ways

pub loop-i-preserved : goal.loop-i-preserved
loop-i-preserved c = search size_ways

pub returns : goal.returns
returns c = search size_ways
