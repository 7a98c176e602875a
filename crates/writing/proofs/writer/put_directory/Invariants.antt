use Prim.Native.Nat.{◌-◌}
use lib.ListN.{length}
use Rattle.writing.proofs.WriterLaws.{DirectoryAt}
use Rattle.writing.proofs.writer.put_directory.Given as goal

abbrev pub invariant-loop-field : goal.invariant-loop-field
invariant-loop-field l = DirectoryAt l.joins l.r l.h l.initial.out l.at l.out l.q l.pos l.p

abbrev pub decreases-loop-field : goal.decreases-loop-field
decreases-loop-field l = length l.r - l.q
