use Prim.Native.Nat.{◌-◌, ◌≤◌}
use lib.ListN.{length}
use mathlib.Core.Path.{◌≡◌}
use Rattle.writing.specs.Found.{house_at}
use Rattle.writing.proofs.joining.next_written.Given as goal

abbrev pub invariant-loop-field : goal.invariant-loop-field
invariant-loop-field l = (l.p ≤ l.q) × (house_at l.joins l.r l.h l.q ≡ house_at l.joins l.r l.h l.p)

abbrev pub decreases-loop-field : goal.decreases-loop-field
decreases-loop-field l = length l.r - l.q
