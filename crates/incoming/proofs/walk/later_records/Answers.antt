use borrow.Author.Rules.{rules}
use Rattle.incoming.proofs.ComingLaws.{third_ways}
use Rattle.incoming.proofs.walk.later_records.Goals as goal

pub loop-p-init : goal.loop-p-init
loop-p-init c = search (rules, third_ways)

pub overflow_add-n : goal.overflow_add-n
overflow_add-n c = search (rules, third_ways)

pub loop-p-smaller : goal.loop-p-smaller
loop-p-smaller c = search (rules, third_ways)

pub loop-p-preserved : goal.loop-p-preserved
loop-p-preserved c = search (rules, third_ways)

pub returns-in-Err : goal.returns-in-Err
returns-in-Err c = search (rules, third_ways)

pub returns : goal.returns
returns c = search (rules, third_ways)
