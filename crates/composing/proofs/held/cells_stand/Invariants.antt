use Rattle.composing.proofs.HeldLaws.{Left}
use Rattle.composing.proofs.held.cells_stand.Given as goal

abbrev pub invariant-loop-i : goal.invariant-loop-i
invariant-loop-i l = Left l.d l.ds l.u l.us l.flags l.c l.m l.i
