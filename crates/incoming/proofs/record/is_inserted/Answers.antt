use borrow.Author.Rules.{rules}
use Rattle.incoming.proofs.SingleLaws.{inserted_ways}
use Rattle.incoming.proofs.record.is_inserted.Goals as goal

pub is_stored-requires : goal.is_stored-requires
is_stored-requires c = search (rules, inserted_ways)

pub returns : goal.returns
returns c = search (rules, inserted_ways)

pub returns-in_default : goal.returns-in_default
returns-in_default c = search (rules, inserted_ways)
