use Rattle.history.proofs.JudgingLaws.{earlier_ways}
use Rattle.history.proofs.judging.earlier.Goals as goal

pub returns-in-Err : goal.returns-in-Err
returns-in-Err c = search earlier_ways

pub returns-in_default : goal.returns-in_default
returns-in_default c = search earlier_ways

pub returns-in_default-2 : goal.returns-in_default-2
returns-in_default-2 c = search earlier_ways
