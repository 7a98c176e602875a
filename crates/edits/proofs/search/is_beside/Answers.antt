use mathlib.Core.Path.{◌∙◌}
use Rattle.edits.proofs.search.is_beside.Goals as goal

pub returns-then-full : goal.returns-then-full
returns-then-full c = c.is_deeper.ensures ∙ rw c.if-full.true

pub returns-else-full : goal.returns-else-full
returns-else-full c = rw c.if-full.false
