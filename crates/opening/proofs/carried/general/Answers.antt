use borrow.Author.Rules.{rules}
use Rattle.opening.proofs.CarriedLaws.{carried_ways}
use Rattle.opening.proofs.carried.general.Goals as goal

pub returns-in_err-head : goal.returns-in_err-head
returns-in_err-head c = search (rules, carried_ways)

pub overflow_add-e : goal.overflow_add-e
overflow_add-e c = search (rules, carried_ways)

pub slice_bounds-check_general-end : goal.slice_bounds-check_general-end
slice_bounds-check_general-end c = search (rules, carried_ways)

pub check_general-requires : goal.check_general-requires
check_general-requires c = search (rules, carried_ways)

pub returns-in_err-check_general : goal.returns-in_err-check_general
returns-in_err-check_general c = search (rules, carried_ways)

pub returns : goal.returns
returns c = search (rules, carried_ways)
