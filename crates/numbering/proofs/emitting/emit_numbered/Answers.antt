use Rattle.numbering.proofs.EmittingLaws.{emit_start, emit_long, emit_room, emit_booked, emit_all}
use native.Mathlib.Omega.{arith}
use Rattle.numbering.proofs.emitting.emit_numbered.Goals as goal

pub loop-i-init : goal.loop-i-init
loop-i-init c = emit_start _ _ _ _ _ _ _ c.requires.x_le_y.0

pub put_tuple-p-requires : goal.put_tuple-p-requires
put_tuple-p-requires c = (omega arith, emit_room _ _ _ _ _ _ _ _ _ _ c.loop-i.invariant c.loop-i-test.true c.requires.room)

pub loop-i-preserved : goal.loop-i-preserved
loop-i-preserved c = emit_booked _ _ _ _ _ _ _ _ _ _ c.loop-i.invariant c.loop-i-test.true _ c.requires.x_le_y.4 _ _ c.from-index.ensures c.from-parent.ensures _ _ c.put_tuple-p.ensures

pub shape_of-out : goal.shape_of-out
shape_of-out c = emit_long _ _ _ _ _ _ _ _ _ _ c.loop-i.invariant

pub returns : goal.returns
returns c = emit_all _ _ _ _ _ _ _ _ _ _ c.loop-i.invariant c.loop-i-test.false
