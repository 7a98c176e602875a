use Rattle.cells.proofs.LengthLaws.{length_old, length_new}
use Rattle.cells.proofs.length.body_length.Goals as goal

pub returns-then-c-i-eq0 : goal.returns-then-c-i-eq0
returns-then-c-i-eq0 c = length_old _ _ _ _ _ _ c.u24_at-start.ensures c.u24_at-n.ensures _ c.if-c-i-eq0.true c.inside.ensures

pub returns : goal.returns
returns c = length_new _ _ _ _ _ _ c.u24_at-start.ensures c.u24_at-n.ensures _ c.if-c-i-eq0.false c.inside-2.ensures
