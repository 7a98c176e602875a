-- `load_spas` meets its contract. Assumes nothing.
use Rattle.cells.proofs.LoadLaws.{LoadAt}
use Prim.Native.Nat.{◌-◌}
use Rattle.cells.proofs.spas.load_spas.Given as goal

abbrev pub invariant-loop-p : goal.invariant-loop-p
invariant-loop-p l = LoadAt l.at l.end l.x l.initial.c l.n l.c l.p l.m

abbrev pub decreases-loop-p : goal.decreases-loop-p
decreases-loop-p l = l.end - l.p
