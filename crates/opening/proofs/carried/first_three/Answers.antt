use borrow.Author.Rules.{rules}
use Rattle.opening.proofs.CarriedLaws.{three_on, three_ways}
use Rattle.opening.proofs.carried.first_three.Goals as goal

pub returns-in_err-p : goal.returns-in_err-p
returns-in_err-p c = search (rules, three_ways)

pub systems-requires : goal.systems-requires
systems-requires c = search (rules, three_ways)

pub returns : goal.returns
returns c = three_on _ _ c.first_two.ensures _ c.in_ok-p.was _ c.systems.ensures _ c.in_record.ensures
