use Rattle.sorting.proofs.IndicesLaws.{both_one, both_two}
use borrow.Author.Rules.{rules}
use Rattle.sorting.proofs.limits.lay_both.Goals as goal

pub returns-then-ascend : goal.returns-then-ascend
returns-then-ascend c = let l = c.lay-new.ensures in both_one _ _ _ _ _ _ _ _ l.0 l.1

pub returns-else-ascend : goal.returns-else-ascend
returns-else-ascend c = both_two _ _ _ _ _ _ _ _ (search rules) c.lay-new.ensures.1 c.lay_in-old.ensures.0 c.lay_in-old.ensures.1 c.lay_in-old.ensures.2
