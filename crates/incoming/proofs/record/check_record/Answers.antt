use borrow.Author.Rules.{rules}
use Rattle.incoming.proofs.SingleLaws.{single_ways}
use Rattle.incoming.proofs.record.check_record.Goals as goal

pub check_keys-requires : goal.check_keys-requires
check_keys-requires c = search (rules, single_ways)

pub returns-then-is_inserted : goal.returns-then-is_inserted
returns-then-is_inserted c = search (rules, single_ways)

pub returns-in_err-k : goal.returns-in_err-k
returns-in_err-k c = search (rules, single_ways)

pub returns : goal.returns
returns c = search (rules, single_ways)
