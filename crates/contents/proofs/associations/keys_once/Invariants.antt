use Rattle.contents.specs.Keys.{keys_in, top_with, once_from}
use Rattle.contents.specs.Fit.{all_fit}
use Rattle.skeleton.specs.Place.{fields_at}
use Rattle.skeleton.specs.RightFrom.{RightFrom}
use Rattle.rules.specs.Tags.{INAS}
use Rattle.rules.specs.ByTag.{has}
use lib.ListN.{length, take, drop}
use Prim.Native.Nat.{◌+◌, ◌-◌, ◌≤◌}
use mathlib.Core.Bool.{true, false}
use mathlib.Core.Path.{◌≡◌}
use Rattle.contents.proofs.associations.keys_once.Given as goal

abbrev pub invariant-loop-q : goal.invariant-loop-q
invariant-loop-q l = (l.n + 2 ≤ l.q) × (drop l.n (fields_at l.r l.h l.p) ≡ fields_at l.r l.h l.q) × (all_fit false (fields_at l.r l.h l.q) ≡ true) × (l.top ≡ top_with 0 (keys_in (take l.n (fields_at l.r l.h l.p)))) × (l.informed ≡ has INAS (take l.n (fields_at l.r l.h l.p))) × RightFrom l.r l.h l.q × (once_from l.r l.h l.p l.n ≡ once_from l.r l.h l.p 0)

abbrev pub decreases-loop-q : goal.decreases-loop-q
decreases-loop-q l = length l.r - l.q
