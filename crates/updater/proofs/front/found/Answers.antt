use Rattle.updater.proofs.FrontLaws.{found_ways}
use Rattle.updater.proofs.front.found.Goals as goal

pub overflow_add-result : goal.overflow_add-result
overflow_add-result c = search found_ways

pub returns-in-Ok : goal.returns-in-Ok
returns-in-Ok c = search found_ways

pub returns-in-Err : goal.returns-in-Err
returns-in-Err c = search found_ways
