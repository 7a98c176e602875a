use mathlib.Core.Bool.{true}
use Rattle.skeleton.specs.Place.{fields_at}
use Rattle.contents.specs.Fit.{all_fit}
use Rattle.contents.specs.Answers.{trees_from}
use mathlib.Core.Path.{◌≡◌}
use Prim.Native.Nat.{◌-◌, ◌≤◌}
use lib.ListN.{length}
use Rattle.contents.proofs.trees.trees_stand.Given as goal

abbrev pub invariant-loop-field : goal.invariant-loop-field
invariant-loop-field l = (l.i ≤ l.q) × (all_fit l.new (fields_at l.r l.h l.q) ≡ true) × (trees_from l.r l.h l.new l.q l.i ≡ trees_from l.r l.h l.new l.p 2)

abbrev pub decreases-loop-field : goal.decreases-loop-field
decreases-loop-field l = length l.r - l.q
