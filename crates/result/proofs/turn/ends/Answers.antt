use Rattle.result.proofs.SideLaws.{ends_old, ends_new}
use Rattle.result.proofs.turn.ends.Goals as goal

pub returns-then-old : goal.returns-then-old
returns-then-old c = ends_old _ c.if-old.true _ _

pub returns-else-old : goal.returns-else-old
returns-else-old c = ends_new _ c.if-old.false _ _
