use Rattle.sorting.proofs.NumberLaws.{Rising}
use Rattle.sorting.proofs.order.ascending.Given as goal

abbrev pub invariant-loop-i : goal.invariant-loop-i
invariant-loop-i l = Rising l.n l.s l.i l.last
