use Rattle.numbering.proofs.BackLaws.{parent_ways}
use Rattle.numbering.proofs.back.parent_before.Goals as goal

pub loop-k-init : goal.loop-k-init
loop-k-init c = search parent_ways

pub overflow_step-k : goal.overflow_step-k
overflow_step-k c = search parent_ways

pub overflow_mul-k : goal.overflow_mul-k
overflow_mul-k c = search parent_ways

pub number-requires : goal.number-requires
number-requires c = search parent_ways

pub returns-then-number-depth : goal.returns-then-number-depth
returns-then-number-depth c = search parent_ways

pub loop-k-preserved : goal.loop-k-preserved
loop-k-preserved c = search parent_ways

pub returns : goal.returns
returns c = search parent_ways
