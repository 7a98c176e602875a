use Rattle.emission.proofs.BodiesLaws.{FieldsAt}
use Rattle.emission.proofs.bodies.put_inas_fields.Given as goal

abbrev pub invariant-loop-i : goal.invariant-loop-i
invariant-loop-i l = FieldsAt l.d l.u l.c l.n l.initial.out l.at l.out l.p l.i
