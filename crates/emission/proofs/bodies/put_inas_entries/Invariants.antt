use Rattle.emission.proofs.BodiesLaws.{EntriesAt}
use Rattle.emission.proofs.bodies.put_inas_entries.Given as goal

abbrev pub invariant-loop-i : goal.invariant-loop-i
invariant-loop-i l = EntriesAt l.d l.u l.c l.n l.from l.initial.out l.at l.out l.p l.pos l.i
