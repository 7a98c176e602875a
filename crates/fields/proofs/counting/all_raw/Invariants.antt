use Rattle.fields.specs.Places.{all_raw}
use Rattle.fields.specs.Rows.{table}
use lib.Seq.{slice}
use mathlib.Core.Path.{◌≡◌}
use Rattle.fields.proofs.counting.all_raw.Given as goal

abbrev pub invariant-loop-j : goal.invariant-loop-j
invariant-loop-j l = all_raw (slice l.j l.to table) ≡ all_raw (slice l.from l.to table)
