use Prim.Native.Nat.{◌-◌}
use lib.ListN.{length}
use Rattle.writer.proofs.PutLaws.{PutsAt}
use Rattle.writer.proofs.put_records.Given as goal

abbrev pub invariant-loop-head : goal.invariant-loop-head
invariant-loop-head l = PutsAt l.f l.initial.out l.out l.p l.n l.q

abbrev pub decreases-loop-head : goal.decreases-loop-head
decreases-loop-head l = length l.f - l.p
