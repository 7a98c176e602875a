use mathlib.Core.Path.{◌≡◌}
use Prim.Native.Nat.{◌-◌, ◌≤◌}
use lib.ListN.{length}
use Rattle.book.specs.Rcids.{Unmet}
use Rattle.references.proofs.collecting.collect.Given as goal

abbrev pub invariant-loop-n : goal.invariant-loop-n
invariant-loop-n l = (length l.t ≡ length l.initial.t) × (length l.k ≡ length l.initial.k) × (l.r ≤ length l.f) × (l.n ≤ length l.t) × Unmet l.k

abbrev pub decreases-loop-n : goal.decreases-loop-n
decreases-loop-n l = length l.f - l.r
