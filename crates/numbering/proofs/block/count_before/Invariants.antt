use mathlib.Core.Path.{◌≡◌}
use lib.ListN.{length}
use Rattle.numbering.specs.Block.{Parents, Tallied}
use Rattle.numbering.proofs.block.count_before.Given as goal

abbrev pub invariant-loop-i : goal.invariant-loop-i
invariant-loop-i l = (length l.parents ≡ length l.initial.parents) × (length l.t ≡ length l.initial.t) × Tallied l.w l.b l.t l.i × Parents l.w l.i l.parents
