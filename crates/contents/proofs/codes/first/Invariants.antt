use Prim.Native.Nat.{◌-◌}
use mathlib.Core.Path.{◌≡◌}
use mathlib.Core.Bool.{true, false}
use lib.ListN.{length}
use Rattle.skeleton.specs.Place.{fields_at}
use Rattle.contents.specs.Fit.{all_fit}
use Rattle.contents.specs.Codes.{codes_in}
use Rattle.contents.proofs.codes.first.Given as goal

abbrev pub invariant-loop-field : goal.invariant-loop-field
invariant-loop-field l = (all_fit false (fields_at l.r l.h l.q) ≡ true) × (codes_in (fields_at l.r l.h l.p) ≡ codes_in (fields_at l.r l.h l.q))

abbrev pub decreases-loop-field : goal.decreases-loop-field
decreases-loop-field l = length l.r - l.q
