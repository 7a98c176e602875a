use mathlib.Core.Path.{◌≡◌}
use Prim.Native.Nat.{◌-◌, ◌≤◌}
use lib.ListN.{length}
use Rattle.fieldwise.specs.InFile.{field_from, field_in_file}
use Rattle.fieldwise.proofs.file.field_of_record.Given as goal

abbrev pub invariant-loop-passed : goal.invariant-loop-passed
invariant-loop-passed l = (l.at ≤ length l.file) × (field_from l.file l.at (l.m - l.passed) l.n ≡ field_in_file l.file l.m l.n)
