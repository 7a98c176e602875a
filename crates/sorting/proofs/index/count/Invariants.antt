use Prim.Native.Nat.{◌≤◌, ◌-◌}
use lib.ListN.{length}
use Rattle.keys.specs.Look.{Sound}
use Rattle.sorting.proofs.index.count.Given as goal

abbrev pub invariant-loop-look : goal.invariant-loop-look
invariant-loop-look l = Sound l.u l.q × (l.n ≤ l.q)

abbrev pub decreases-loop-look : goal.decreases-loop-look
decreases-loop-look l = length l.u - l.q
