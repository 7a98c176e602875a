use Rattle.listing.proofs.WalkLaws.{Reached}
use lib.ListN.{length}
use Prim.Native.Nat.{◌-◌}
use Rattle.listing.proofs.walk.put_records.Given as goal

abbrev pub invariant-loop-head : goal.invariant-loop-head
invariant-loop-head l = Reached l.f l.start l.at l.initial.out l.p l.n l.q l.out

abbrev pub decreases-loop-head : goal.decreases-loop-head
decreases-loop-head l = length l.f - l.p
