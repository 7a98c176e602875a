use mathlib.Core.Path.{◌∙◌}
use lib.ListN.{length-set}
use Rattle.numbering.proofs.KnownLaws.{remember_deep, remember_kept}
use native.Mathlib.Omega.{arith}
use Rattle.numbering.proofs.known.remember.Goals as goal

pub bounds-known-depth-then-depth-lt8 : goal.bounds-known-depth-then-depth-lt8
bounds-known-depth-then-depth-lt8 c = simp length-set (omega arith)

pub shape_of-known : goal.shape_of-known
shape_of-known c = c.begin_runs.auto.known ∙ simp length-set

pub returns-then-depth-lt8 : goal.returns-then-depth-lt8
returns-then-depth-lt8 c = remember_kept _ _ _ _ _ c.if-depth-lt8.true _ c.begin_runs.ensures

pub returns-else-depth-lt8 : goal.returns-else-depth-lt8
returns-else-depth-lt8 c = remember_deep _ _ _ _ _ (omega arith)
