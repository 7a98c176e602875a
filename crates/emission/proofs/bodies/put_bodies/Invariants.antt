use Rattle.emission.proofs.BodiesLaws.{BodiesAt}
use Rattle.emission.proofs.bodies.put_bodies.Given as goal

abbrev pub invariant-loop-i : goal.invariant-loop-i
invariant-loop-i l = BodiesAt l.d l.u l.c l.n l.initial.out l.at l.out l.p l.i
