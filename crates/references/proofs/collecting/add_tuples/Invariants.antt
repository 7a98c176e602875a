use mathlib.Core.Path.{◌≡◌}
use Prim.Native.Nat.{◌-◌, ◌≤◌}
use lib.ListN.{length}
use Rattle.book.specs.Rcids.{Unmet}
use Rattle.references.proofs.collecting.add_tuples.Given as goal

abbrev pub invariant-loop-at : goal.invariant-loop-at
invariant-loop-at l = (length l.t ≡ length l.initial.t) × (length l.k ≡ length l.initial.k) × (l.m ≤ length l.t) × Unmet l.k

abbrev pub decreases-loop-at : goal.decreases-loop-at
decreases-loop-at l = length l.b - l.at
