use Rattle.numbering.proofs.EmittingLaws.{SizeAt}
use Rattle.numbering.proofs.emitting.size.Given as goal

abbrev pub invariant-loop-i : goal.invariant-loop-i
invariant-loop-i l = SizeAt l.s l.u l.w l.n l.t l.i
