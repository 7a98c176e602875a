use Prim.Native.Nat.{◌-◌}
use lib.ListN.{length}
use Rattle.book.specs.First.{Going}
use Rattle.book.proofs.first.reach.Given as goal

abbrev pub invariant-loop-head : goal.invariant-loop-head
invariant-loop-head l = Going l.f l.start l.m l.p l.m

abbrev pub decreases-loop-head : goal.decreases-loop-head
decreases-loop-head l = length l.f - l.p
