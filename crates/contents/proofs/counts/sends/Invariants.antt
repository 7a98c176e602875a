use Rattle.contents.specs.Answers.{send_from}
use mathlib.Core.Path.{◌≡◌}
use Prim.Native.Nat.{◌-◌}
use lib.ListN.{length}
use Rattle.contents.proofs.counts.sends.Given as goal

abbrev pub invariant-loop-field : goal.invariant-loop-field
invariant-loop-field l = send_from l.r l.h l.q l.left ≡ send_from l.r l.h l.p l.n

abbrev pub decreases-loop-field : goal.decreases-loop-field
decreases-loop-field l = length l.r - l.q
