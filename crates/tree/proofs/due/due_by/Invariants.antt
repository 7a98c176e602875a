use Rattle.tree.specs.Due.{AllDue}
use Rattle.tree.specs.Known.{Whole}
use lib.ListN.{length}
use mathlib.Core.Path.{◌≡◌}
use Prim.Native.Nat.{◌-◌}
use Rattle.tree.proofs.due.due_by.Given as goal

abbrev pub invariant-loop-x : goal.invariant-loop-x
invariant-loop-x l = (length l.b ≡ length l.initial.b) × (length l.t ≡ length l.initial.t) × Whole l.f l.x × AllDue l.f l.x

abbrev pub decreases-loop-x : goal.decreases-loop-x
decreases-loop-x l = length l.f - l.x
