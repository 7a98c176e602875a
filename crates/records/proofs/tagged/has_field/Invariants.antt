use mathlib.Core.Path.{◌≡◌}
use Prim.Native.Nat.{◌-◌}
use lib.ListN.{length}
use Rattle.skeleton.specs.Place.{fields_at}
use Rattle.skeleton.specs.RightFrom.{RightFrom}
use Rattle.rules.specs.ByTag.{has}
use Rattle.records.proofs.tagged.has_field.Given as goal

abbrev pub invariant-loop-q : goal.invariant-loop-q
invariant-loop-q l = RightFrom l.r l.h l.q × (has l.wanted (fields_at l.r l.h l.q) ≡ has l.wanted (fields_at l.r l.h l.p))

abbrev pub decreases-loop-q : goal.decreases-loop-q
decreases-loop-q l = length l.r - l.q
