use Prim.Native.Nat.{◌-◌}
use Rattle.items.proofs.LoadLaws.{LoadAt}
use Rattle.items.proofs.loading.load.Given as goal

abbrev pub invariant-loop-a : goal.invariant-loop-a
invariant-loop-a l = LoadAt l.b l.at l.end l.x l.initial.w l.w l.a l.i

abbrev pub decreases-loop-a : goal.decreases-loop-a
decreases-loop-a l = l.end - l.a
