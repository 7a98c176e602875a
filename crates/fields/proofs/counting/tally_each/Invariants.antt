use Rattle.fields.specs.Places.{tally_at}
use Rattle.fields.specs.Rows.{table}
use lib.Seq.{slice}
use lib.ListN.{length}
use Prim.Native.Nat.{◌≤◌, ◌-◌}
use mathlib.Core.Path.{◌≡◌}
use Rattle.fields.proofs.counting.tally_each.Given as goal

abbrev pub invariant-loop-p : goal.invariant-loop-p
invariant-loop-p l = (l.k ≤ l.p) × (l.p ≤ length l.b) × (tally_at (slice l.from l.to table) l.b l.p l.k ≡ tally_at (slice l.from l.to table) l.b l.at 0)

abbrev pub decreases-loop-p : goal.decreases-loop-p
decreases-loop-p l = length l.b - l.p
