use Rattle.result.proofs.PassLaws.{after_ways}
use Rattle.result.proofs.pass.after.Goals as goal

pub overflow_add-result : goal.overflow_add-result
overflow_add-result c = search after_ways

pub overflow_add-result-in-One : goal.overflow_add-result-in-One
overflow_add-result-in-One c = search after_ways

pub returns-in-Nothing : goal.returns-in-Nothing
returns-in-Nothing c = search after_ways

pub returns-in-Loose : goal.returns-in-Loose
returns-in-Loose c = search after_ways

pub returns-in-One : goal.returns-in-One
returns-in-One c = search after_ways
