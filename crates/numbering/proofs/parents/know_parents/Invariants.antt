use mathlib.Core.Path.{◌≡◌}
use lib.ListN.{length}
use Rattle.numbering.specs.Block.{Parents}
use Rattle.numbering.proofs.parents.know_parents.Given as goal

abbrev pub invariant-loop-i : goal.invariant-loop-i
invariant-loop-i l = (length l.parents ≡ length l.initial.parents) × Parents l.w l.i l.parents
