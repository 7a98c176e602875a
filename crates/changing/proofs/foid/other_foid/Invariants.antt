-- `other_foid` meets its contract. Assumes nothing.
use Rattle.changing.proofs.SameLaws.{SameAt}
use Prim.Native.Nat.{◌+◌, ◌-◌}
use lib.ListN.{length}
use Rattle.skeleton.specs.Place.{between}
use Rattle.changing.proofs.foid.other_foid.Given as goal

abbrev pub invariant-loop-field : goal.invariant-loop-field
invariant-loop-field l = SameAt l.d l.u l.at l.len l.h l.v l.q l.i

abbrev pub decreases-loop-field : goal.decreases-loop-field
decreases-loop-field l = length (between l.u l.at (l.at + l.len)) - l.q
