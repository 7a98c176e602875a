use Rattle.numbering.proofs.EmittingLaws.{emit_start, emit_long, emit_room, emit_known, begun_at, begun_all}
use native.Mathlib.Omega.{arith}
use Rattle.numbering.proofs.emitting.emit_items.Goals as goal

pub loop-i-init : goal.loop-i-init
loop-i-init c = (emit_start _ _ _ _ _ _ _ (omega arith), c.requires.n_in_bounds.2, omega arith)

pub shape_of-out-then-i-steps : goal.shape_of-out-then-i-steps
shape_of-out-then-i-steps c = emit_long _ _ _ _ _ _ _ _ _ _ c.loop-i.invariant.0

pub returns-then-i-steps : goal.returns-then-i-steps
returns-then-i-steps c = begun_at _ _ _ _ _ _ _ _ _ c.loop-i.invariant.0

pub next_numbers-x-requires : goal.next_numbers-x-requires
next_numbers-x-requires c = (omega arith, omega arith, c.loop-i.invariant.1)

pub put_tuple-p-requires : goal.put_tuple-p-requires
put_tuple-p-requires c = (omega arith, emit_room _ _ _ _ _ _ _ _ _ _ c.loop-i.invariant.0 c.loop-i-test.true c.requires.room)

pub loop-i-preserved : goal.loop-i-preserved
loop-i-preserved c = let n = c.next_numbers-x.ensures in
    (emit_known _ _ _ _ _ _ _ _ _ _ c.loop-i.invariant.0 c.loop-i-test.true _ n.0 _ _ c.put_tuple-p.ensures, n.1, omega (arith, n.0.few))

pub shape_of-out : goal.shape_of-out
shape_of-out c = emit_long _ _ _ _ _ _ _ _ _ _ c.loop-i.invariant.0

pub returns : goal.returns
returns c = begun_all _ _ _ _ _ _ _ _ _ c.loop-i.invariant.0 c.loop-i-test.false
