use mathlib.Core.Path.{◌∙◌}
use Rattle.keys.proofs.OrderLaws.{ascended_so, ascended_not}
use Rattle.keys.proofs.order.ascended_to.Goals as goal

pub returns-then-so : goal.returns-then-so
returns-then-so c = search ascended_so

pub returns-else-so : goal.returns-else-so
returns-else-so c = c.if-so.false ∙ ascended_not _ _ _ c.if-so.false
