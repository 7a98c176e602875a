use borrow.Author.Rules.{rules}
use Rattle.incoming.proofs.ComingLaws.{came_later, came_ways}
use Rattle.incoming.proofs.walk.check_update.Goals as goal

pub later_records-requires : goal.later_records-requires
later_records-requires c = search (rules, came_ways)

pub returns-in_err-start : goal.returns-in_err-start
returns-in_err-start c = search (rules, came_ways)

pub returns : goal.returns
returns c = came_later _ _ c.first_two.ensures _ c.in_ok-start.was _ c.later_records.ensures
