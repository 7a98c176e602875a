use borrow.Author.Rules.{rules}
use Rattle.opening.proofs.CarriedLaws.{carried_ways}
use Rattle.opening.proofs.carried.systems.Goals as goal

pub returns-in_err-head : goal.returns-in_err-head
returns-in_err-head c = search (rules, carried_ways)

pub overflow_add-e : goal.overflow_add-e
overflow_add-e c = search (rules, carried_ways)

pub slice_bounds-begins_csid-end : goal.slice_bounds-begins_csid-end
slice_bounds-begins_csid-end c = search (rules, carried_ways)

pub begins_csid-requires : goal.begins_csid-requires
begins_csid-requires c = search (rules, carried_ways)

pub returns-in_err-begins_csid : goal.returns-in_err-begins_csid
returns-in_err-begins_csid c = search (rules, carried_ways)

pub returns : goal.returns
returns c = search (rules, carried_ways)
