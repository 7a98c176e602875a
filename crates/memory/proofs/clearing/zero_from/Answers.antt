-- `zero_from` meets its contract. Assumes nothing.
use mathlib.Core.Path.{refl, ◌∙◌}
use native.Mathlib.Omega.{arith}
use Rattle.memory.proofs.HoldLaws.{zeros_lent, put_zeros}
use Rattle.memory.proofs.clearing.zero_from.Goals as goal

pub returns : goal.returns
returns c = let a = c.args in
    zeros_lent _ _ _ _ _ refl (omega arith) (c.fill.ensures.after (λ y e. e)) ∙ put_zeros a.at a.s.now (omega arith)
