use Rattle.contents.specs.Strays.{Risen}
use Rattle.contents.proofs.strays.in_spas.Given as goal

abbrev pub invariant-loop-j : goal.invariant-loop-j
invariant-loop-j l = Risen l.b l.initial.top l.initial.count l.j l.top l.count
