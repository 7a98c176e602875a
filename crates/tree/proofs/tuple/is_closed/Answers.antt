use Rattle.tree.proofs.TestLaws.{closed_whole, closed_parents}
use Rattle.tree.proofs.tuple.is_closed.Goals as goal

pub returns-then-whole : goal.returns-then-whole
returns-then-whole c = closed_whole _ _ _ c.if-whole.true

pub returns-else-whole : goal.returns-else-whole
returns-else-whole c = closed_parents _ _ _ c.if-whole.false
