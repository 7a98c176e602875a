use Prim.Native.Nat.{◌-◌}
use mathlib.Core.Path.{◌≡◌}
use lib.ListN.{length}
use Rattle.numbering.specs.Block.{Parents}
use Rattle.numbering.proofs.EmittingLaws.{EmitAt}
use Rattle.numbering.proofs.emitting.emit_blocks.Given as goal

abbrev pub invariant-loop-i : goal.invariant-loop-i
invariant-loop-i l = EmitAt l.s l.u l.w l.x l.n l.initial.out l.at l.out l.p l.i × Parents l.w l.i l.parents × (length l.numbers ≡ 1024) × (length l.parents ≡ 12500)

abbrev pub decreases-loop-i : goal.decreases-loop-i
decreases-loop-i l = l.n - l.i
