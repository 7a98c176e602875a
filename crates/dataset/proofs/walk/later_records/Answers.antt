use Rattle.dataset.proofs.WalkLaws.{walk_emptied}
use borrow.Author.Rules.{rules}
use Rattle.dataset.proofs.walk.later_records.Goals as goal

pub each_record-requires : goal.each_record-requires
each_record-requires c = (search rules, search rules, walk_emptied _ _ _ _ c.zero.ensures)
