-- `act_spas` meets its contract. Assumes nothing.
use Rattle.cells.proofs.SpasLaws.{SpasAt}
use Prim.Native.Nat.{◌-◌}
use Rattle.cells.proofs.spas.act_spas.Given as goal

abbrev pub invariant-loop-p : goal.invariant-loop-p
invariant-loop-p l = SpasAt l.d l.u l.at l.end l.initial.c l.n l.c l.p l.j l.m

abbrev pub decreases-loop-p : goal.decreases-loop-p
decreases-loop-p l = l.end - l.p
