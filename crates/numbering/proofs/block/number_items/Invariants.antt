use mathlib.Core.Path.{◌≡◌}
use lib.ListN.{length}
use Rattle.numbering.specs.Block.{Parents, Tallied, Numbered}
use Rattle.numbering.proofs.block.number_items.Given as goal

abbrev pub invariant-loop-i : goal.invariant-loop-i
invariant-loop-i l = (length l.parents ≡ length l.initial.parents) × (length l.t ≡ length l.initial.t) × (length l.numbers ≡ length l.initial.numbers) × Tallied l.w l.b l.t l.i × Parents l.w l.i l.parents × Numbered l.w l.x l.i l.numbers
