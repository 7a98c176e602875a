use Rattle.numbering.proofs.ParentLaws.{parent_by_look, parent_by_table}
use Rattle.numbering.proofs.parents.next_parent.Goals as goal

pub returns-then-depth-parents : goal.returns-then-depth-parents
returns-then-depth-parents c = parent_by_table _ _ _ _ c.number-depth.ensures.0 (c.deepen.ensures _ c.depth_under-shallow.ensures c.requires.2) _ c.from.ensures c.if-depth-parents.true

pub returns-else-depth-parents : goal.returns-else-depth-parents
returns-else-depth-parents c = parent_by_look _ _ _ _ c.number-depth.ensures.0 (c.deepen.ensures _ c.depth_under-shallow.ensures c.requires.2) _ c.parent_before.ensures.0
