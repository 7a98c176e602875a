use borrow.Author.Rules.{rules}
use Rattle.opening.proofs.CarriedLaws.{unread_ways}
use Rattle.opening.proofs.carried.descriptive.Goals as goal

pub returns-in_err-head : goal.returns-in_err-head
returns-in_err-head c = search (rules, unread_ways)

pub returns : goal.returns
returns c = search (rules, unread_ways)
