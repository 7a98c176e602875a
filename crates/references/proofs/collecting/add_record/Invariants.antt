use mathlib.Core.Path.{◌≡◌}
use Prim.Native.Nat.{◌-◌, ◌≤◌}
use lib.ListN.{length}
use Rattle.book.specs.Rcids.{Unmet}
use Rattle.references.proofs.collecting.add_record.Given as goal

abbrev pub invariant-loop-field : goal.invariant-loop-field
invariant-loop-field l = (length l.t ≡ length l.initial.t) × (length l.k ≡ length l.initial.k) × (l.m ≤ length l.t) × Unmet l.k

abbrev pub decreases-loop-field : goal.decreases-loop-field
decreases-loop-field l = length l.r - l.e
