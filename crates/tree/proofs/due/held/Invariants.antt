use Prim.Native.Nat.{◌-◌}
use mathlib.Core.Path.{◌≡◌}
use lib.ListN.{length}
use Rattle.tree.specs.Known.{Whole, Reach}
use Rattle.tree.specs.Due.{AllDue, Tallied}
use Rattle.tree.proofs.due.held.Given as goal

abbrev pub invariant-loop-at : goal.invariant-loop-at
invariant-loop-at l = (length l.t ≡ length l.initial.t) × Whole l.f l.at × Reach l.f 0 l.at × Tallied l.f l.b l.t l.at × AllDue l.f l.at

abbrev pub decreases-loop-at : goal.decreases-loop-at
decreases-loop-at l = length l.f - l.at
