use Rattle.tree.specs.Known.{Whole}
use lib.ListN.{length}
use mathlib.Core.Path.{◌≡◌}
use Prim.Native.Nat.{◌+◌, ◌-◌, ◌≤◌}
use Rattle.tree.proofs.due.gather.Given as goal

abbrev pub invariant-loop-at : goal.invariant-loop-at
invariant-loop-at l = (length l.b ≡ length l.initial.b) × Whole l.f l.at × (l.x + l.k ≤ l.at) × (l.k ≡ 0 → l.at ≡ l.x) × (l.k ≤ length l.initial.b)

abbrev pub decreases-loop-at : goal.decreases-loop-at
decreases-loop-at l = length l.f - l.at
