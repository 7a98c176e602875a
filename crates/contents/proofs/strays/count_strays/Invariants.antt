use Prim.Native.Nat.{◌+◌, ◌-◌, ◌≤◌}
use mathlib.Core.Path.{◌≡◌}
use mathlib.Core.Bool.{true, false}
use lib.ListN.{length, take, drop}
use Rattle.skeleton.specs.Place.{fields_at}
use Rattle.skeleton.specs.RightFrom.{RightFrom}
use Rattle.rules.specs.Tags.{INAS}
use Rattle.rules.specs.ByTag.{has}
use Rattle.contents.specs.Fit.{all_fit}
use Rattle.contents.specs.Strays.{Level}
use Rattle.contents.proofs.strays.count_strays.Given as goal

abbrev pub invariant-loop-q : goal.invariant-loop-q
invariant-loop-q l = (l.n + 2 ≤ l.q) × (drop l.n (fields_at l.r l.h l.p) ≡ fields_at l.r l.h l.q) × (all_fit false (fields_at l.r l.h l.q) ≡ true) × (l.informed ≡ has INAS (take l.n (fields_at l.r l.h l.p))) × RightFrom l.r l.h l.q × Level l.r l.h l.p l.n l.found

abbrev pub decreases-loop-q : goal.decreases-loop-q
decreases-loop-q l = length l.r - l.q
