use Prim.Native.Nat.{◌+◌, ◌*◌, ◌<◌}
use Rattle.numbering.specs.Known.{Known}
use Rattle.numbering.proofs.EmittingLaws.{EmitAt}
use Rattle.numbering.proofs.emitting.emit_items.Given as goal

abbrev pub invariant-loop-i : goal.invariant-loop-i
invariant-loop-i l = EmitAt l.s l.u l.w 0 l.n l.initial.out l.at l.out l.p l.i × Known l.w l.i l.known × (l.steps < 131072 + 32 * l.i)
