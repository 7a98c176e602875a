use mathlib.Core.Path.{◌≡◌}
use lib.ListN.{length}
use Rattle.numbering.specs.Block.{Parents}
use Rattle.numbering.proofs.block.gather.Given as goal

abbrev pub invariant-loop-i : goal.invariant-loop-i
invariant-loop-i l = (length l.parents ≡ length l.initial.parents) × (length l.b ≡ length l.initial.b) × Parents l.w l.i l.parents
