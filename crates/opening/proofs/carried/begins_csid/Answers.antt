use borrow.Author.Rules.{rules}
use Rattle.opening.proofs.CarriedLaws.{csid_ways}
use Rattle.opening.proofs.carried.begins_csid.Goals as goal

pub returns-then-field-eq-CSID : goal.returns-then-field-eq-CSID
returns-then-field-eq-CSID c = search (rules, csid_ways)

pub returns-else-field-eq-CSID : goal.returns-else-field-eq-CSID
returns-else-field-eq-CSID c = search (rules, csid_ways)

pub returns-in_default : goal.returns-in_default
returns-in_default c = search (rules, csid_ways)
