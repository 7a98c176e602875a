use Rattle.contents.specs.Answers.{stand_from, counted_from, trees_from, since}
use mathlib.Core.Path.{◌≡◌}
use Prim.Native.Nat.{◌-◌, ◌≤◌}
use lib.ListN.{length}
use Rattle.contents.proofs.content.rest_right.Given as goal

abbrev pub invariant-loop-field : goal.invariant-loop-field
invariant-loop-field l = (l.i ≤ l.q) × (stand_from l.r l.h l.new l.q l.i ≡ stand_from l.r l.h l.new l.p 2) × (since l.controlled (counted_from l.r l.h l.p l.p 2) (counted_from l.r l.h l.p l.q l.i) ≡ counted_from l.r l.h l.p l.p 2)
    × (since l.broken (trees_from l.r l.h l.new l.p 2) (trees_from l.r l.h l.new l.q l.i) ≡ trees_from l.r l.h l.new l.p 2)

abbrev pub decreases-loop-field : goal.decreases-loop-field
decreases-loop-field l = length l.r - l.q
