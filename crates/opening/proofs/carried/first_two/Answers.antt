use mathlib.Core.Path.{◌∙◌}
use borrow.Author.Rules.{rules}
use Rattle.opening.proofs.CarriedLaws.{two_on, two_ways}
use Rattle.opening.proofs.carried.first_two.Goals as goal

pub returns-in_err-p : goal.returns-in_err-p
returns-in_err-p c = search (rules, two_ways)

pub general-requires : goal.general-requires
general-requires c = search (rules, two_ways)

pub returns : goal.returns
returns c = two_on _ _ _ (c.in_record.ensures ∙ c.descriptive.ensures) _ c.in_ok-p.was _ c.general.ensures _ c.in_record-2.ensures
