use Rattle.numbering.proofs.EmittingLaws.{EmitAt}
use Rattle.numbering.proofs.emitting.emit_numbered.Given as goal

abbrev pub invariant-loop-i : goal.invariant-loop-i
invariant-loop-i l = EmitAt l.s l.u l.w l.x l.y l.initial.out l.at l.out l.p l.i
