use lib.ListN.{length}
use Prim.Native.Nat.{◌-◌}
use Rattle.keys.specs.Table.{Close}
use Rattle.keys.proofs.order.site_ordered.Given as goal

abbrev pub invariant-loop-look : goal.invariant-loop-look
invariant-loop-look l = Close l.f l.start l.key l.p

abbrev pub decreases-loop-look : goal.decreases-loop-look
decreases-loop-look l = length l.f - l.p
