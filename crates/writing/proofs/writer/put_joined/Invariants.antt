use Prim.Native.Nat.{◌-◌}
use lib.ListN.{length}
use Rattle.writing.proofs.WriterLaws.{JoinsAt}
use Rattle.writing.proofs.writer.put_joined.Given as goal

abbrev pub invariant-loop-field : goal.invariant-loop-field
invariant-loop-field l = JoinsAt l.joins l.r l.h l.list l.from l.initial.out l.at l.out l.q l.p

abbrev pub decreases-loop-field : goal.decreases-loop-field
decreases-loop-field l = length l.r - l.q
