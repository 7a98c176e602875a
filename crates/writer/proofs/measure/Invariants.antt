use Prim.Native.Nat.{◌-◌}
use lib.ListN.{length}
use Rattle.writer.proofs.MeasureLaws.{MeasuresAt}
use Rattle.writer.proofs.measure.Given as goal

abbrev pub invariant-loop-head : goal.invariant-loop-head
invariant-loop-head l = MeasuresAt l.f l.p l.n l.total

abbrev pub decreases-loop-head : goal.decreases-loop-head
decreases-loop-head l = length l.f - l.p
