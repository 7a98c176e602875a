use Rattle.fields.specs.Bytes.{run}
use lib.ListN.{drop}
use Prim.Native.Nat.{◌+◌}
use mathlib.Core.Path.{◌≡◌}
use Rattle.fields.proofs.text.text_end.Given as goal

abbrev pub invariant-loop-i : goal.invariant-loop-i
invariant-loop-i l = l.at + run (drop l.at l.b) ≡ l.i + run (drop l.i l.b)
