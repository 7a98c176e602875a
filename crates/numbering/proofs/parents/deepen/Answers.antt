use Rattle.numbering.proofs.ParentLaws.{deep_start, deep_turn, deep_out, deep_end}
use native.Mathlib.Omega.{arith}
use Rattle.numbering.proofs.parents.deepen.Goals as goal

pub loop-d-init : goal.loop-d-init
loop-d-init c = deep_start _ _ _

pub returns-then-depth-d : goal.returns-then-depth-d
returns-then-depth-d c = deep_end _ _ _ _ _ c.loop-d.invariant _ c.if-depth-d.true

pub loop-d-preserved : goal.loop-d-preserved
loop-d-preserved c = deep_turn _ _ _ _ _ c.loop-d.invariant (omega (arith, c.loop-d.invariant.size))

pub returns : goal.returns
returns c = deep_out _ _ _ _ _ c.loop-d.invariant _ (omega (arith, c.loop-d.invariant.size))
