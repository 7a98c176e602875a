use Prim.Native.Nat.{◌-◌}
use Rattle.sorting.proofs.NumberLaws.{Halved}
use Rattle.sorting.proofs.order.first_from.Given as goal

abbrev pub invariant-loop-lo : goal.invariant-loop-lo
invariant-loop-lo l = Halved l.n l.s l.w l.lo l.hi

abbrev pub decreases-loop-lo : goal.decreases-loop-lo
decreases-loop-lo l = l.hi - l.lo
