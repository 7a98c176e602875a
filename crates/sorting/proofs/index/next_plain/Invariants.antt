use Prim.Native.Nat.{◌-◌}
use lib.ListN.{length}
use Rattle.sorting.proofs.IndexLaws.{Skipping}
use Rattle.sorting.proofs.index.next_plain.Given as goal

abbrev pub invariant-loop-look : goal.invariant-loop-look
invariant-loop-look l = Skipping l.u l.key l.p l.q

abbrev pub decreases-loop-look : goal.decreases-loop-look
decreases-loop-look l = length l.u - l.q
