use mathlib.Core.Bool.{true, false}
use Rattle.skeleton.specs.Place.{fields_at}
use Rattle.contents.specs.Fit.{all_fit}
use Rattle.contents.specs.Answers.{counted_from}
use mathlib.Core.Path.{◌≡◌}
use Prim.Native.Nat.{◌-◌, ◌≤◌}
use lib.ListN.{length}
use Rattle.contents.proofs.counts.check_counts.Given as goal

abbrev pub invariant-loop-field : goal.invariant-loop-field
invariant-loop-field l = (l.i ≤ l.q) × (all_fit false (fields_at l.r l.h l.q) ≡ true) × (counted_from l.r l.h l.p l.q l.i ≡ counted_from l.r l.h l.p l.p 2)

abbrev pub decreases-loop-field : goal.decreases-loop-field
decreases-loop-field l = length l.r - l.q
