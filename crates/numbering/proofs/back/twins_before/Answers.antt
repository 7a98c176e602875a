use Rattle.numbering.proofs.BackLaws.{twins_ways}
use Rattle.numbering.proofs.back.twins_before.Goals as goal

pub loop-k-init : goal.loop-k-init
loop-k-init c = search twins_ways

pub overflow_step-k : goal.overflow_step-k
overflow_step-k c = search twins_ways

pub overflow_mul-k : goal.overflow_mul-k
overflow_mul-k c = search twins_ways

pub number-requires : goal.number-requires
number-requires c = search twins_ways

pub returns-then-number-depth : goal.returns-then-number-depth
returns-then-number-depth c = search twins_ways

pub twin-t-requires : goal.twin-t-requires
twin-t-requires c = search twins_ways

pub overflow_add-t : goal.overflow_add-t
overflow_add-t c = search twins_ways

pub loop-k-preserved : goal.loop-k-preserved
loop-k-preserved c = search twins_ways

pub returns : goal.returns
returns c = search twins_ways
