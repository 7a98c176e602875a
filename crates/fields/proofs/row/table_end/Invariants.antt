use Rattle.fields.specs.Places.{subfields_end}
use Rattle.fields.specs.Rows.{table}
use lib.Seq.{slice}
use lib.ListN.{length}
use Prim.Native.Nat.{◌≤◌}
use mathlib.Core.Path.{◌≡◌}
use Rattle.fields.proofs.row.table_end.Given as goal

abbrev pub invariant-loop-j : goal.invariant-loop-j
invariant-loop-j l = (l.p ≤ length l.b) × (subfields_end (slice l.j l.to table) l.b l.p ≡ subfields_end (slice l.from l.to table) l.b l.at)
