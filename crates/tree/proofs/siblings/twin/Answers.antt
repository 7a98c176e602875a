use Rattle.tree.proofs.CountLaws.{hit_both, hit_code, hit_parent}
use mathlib.Core.Path.{sym, ◌∙◌}
use native.Mathlib.Omega.{arith}
use Rattle.tree.proofs.siblings.twin.Goals as goal

pub returns-then-number-code : goal.returns-then-number-code
returns-then-number-code c = (sym (hit_code _ _ _ _ (λ e. c.if-number-code.true (c.number.ensures ∙ e))), omega arith)

pub returns-then-number-parent : goal.returns-then-number-parent
returns-then-number-parent c = (sym (hit_parent _ _ _ _ (λ e. c.if-number-parent.true (c.number-2.ensures ∙ e))), omega arith)

pub returns : goal.returns
returns c = (sym (hit_both _ _ _ _ (sym c.number.ensures ∙ c.if-number-code.false) (sym c.number-2.ensures ∙ c.if-number-parent.false)), omega arith)
