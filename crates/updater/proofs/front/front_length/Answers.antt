use Rattle.updater.proofs.FrontLaws.{front_ways}
use Rattle.updater.proofs.front.front_length.Goals as goal

pub overflow_add-result : goal.overflow_add-result
overflow_add-result c = search front_ways

pub overflow_add-result-2 : goal.overflow_add-result-2
overflow_add-result-2 c = search front_ways

pub returns : goal.returns
returns c = search front_ways
