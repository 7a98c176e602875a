use Rattle.keys.proofs.SiteLaws.{Sought}
use lib.ListN.{length}
use Prim.Native.Nat.{◌-◌}
use Rattle.keys.proofs.sites.site_plain.Given as goal

abbrev pub invariant-loop-look : goal.invariant-loop-look
invariant-loop-look l = Sought l.f l.start l.key l.p

abbrev pub decreases-loop-look : goal.decreases-loop-look
decreases-loop-look l = length l.f - l.p
