use mathlib.Core.Path.{◌≡◌}
use Rattle.records.specs.Rows.{row_after}
use Rattle.records.proofs.rows.row_after.Given as goal

abbrev pub invariant-loop-j : goal.invariant-loop-j
invariant-loop-j l = row_after l.tags l.tag l.j ≡ row_after l.tags l.tag l.from
