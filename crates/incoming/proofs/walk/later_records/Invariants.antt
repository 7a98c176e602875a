use Prim.Native.Nat.{◌-◌}
use lib.ListN.{length}
use Rattle.incoming.proofs.ComingLaws.{ThirdAt}
use Rattle.incoming.proofs.walk.later_records.Given as goal

abbrev pub invariant-loop-p : goal.invariant-loop-p
invariant-loop-p l = ThirdAt l.u l.start l.p l.n

abbrev pub decreases-loop-p : goal.decreases-loop-p
decreases-loop-p l = length l.u - l.p
