-- `run` meets its contract. The loop's invariant: from here the month comes to what it comes to from the start. Assumes nothing.
use mathlib.Core.Path.{refl}
use Rattle.month.proofs.FileLaws.{whole_placed}
use Rattle.month.proofs.TurnLaws.{going_start, going_on, own_tested, ran_little, ran_over, ran_cut, ran_long, ran_refused}
use native.Mathlib.Omega.{arith}
use Rattle.month.proofs.turns.run.Goals as goal

pub returns-then-work-lt400000 : goal.returns-then-work-lt400000
returns-then-work-lt400000 c = ran_little _ _ _ _ _ _ _ _ c.if-work-lt400000.true c.begun-m.ensures c.plain.ensures c.stopped.ensures

pub loop-at-init : goal.loop-at-init
loop-at-init c = (going_start _ _ _ _ _ _ c.if-work-lt400000.false c.begun-m.ensures (λ k. omega (arith, c.type_inv.first k)), refl, refl, refl)

pub returns-in_default : goal.returns-in_default
returns-in_default c = ran_cut _ _ _ _ _ _ _ c.loop-at.invariant.0 c.loop-at-test.true _ c.next_file.ensures _ _ c.stopped-in_default.ensures c.in_default.is c.plain-in_default.ensures

pub returns-then-pool_length-m : goal.returns-then-pool_length-m
returns-then-pool_length-m c = ran_long _ _ _ _ _ _ _ c.loop-at.invariant.0 c.loop-at-test.true _ c.next_file.ensures _ _ c.stopped-then-pool_length-m.ensures _ c.in-Some.is _ c.pool_length.ensures c.if-pool_length-m.true c.plain-then-pool_length-m.ensures

pub slice_bounds-hand_tested-count : goal.slice_bounds-hand_tested-count
slice_bounds-hand_tested-count c = let w = whole_placed _ _ c.loop-at-test.true _ _ c.in-Some.is c.next_file.ensures in omega arith

pub slice_bounds-hand_tested-start : goal.slice_bounds-hand_tested-start
slice_bounds-hand_tested-start c = let w = whole_placed _ _ c.loop-at-test.true _ _ c.in-Some.is c.next_file.ensures in omega arith

pub slice_bounds-hand_tested-end : goal.slice_bounds-hand_tested-end
slice_bounds-hand_tested-end c = let w = whole_placed _ _ c.loop-at-test.true _ _ c.in-Some.is c.next_file.ensures in omega arith

pub hand_tested-r-requires : goal.hand_tested-r-requires
hand_tested-r-requires c = own_tested _ _ _ _ _ _ _ c.loop-at.invariant.0

pub returns-then-r-ne0 : goal.returns-then-r-ne0
returns-then-r-ne0 c = ran_refused _ _ _ _ _ _ _ c.loop-at.invariant.0 c.loop-at-test.true _ c.next_file.ensures _ _ c.stopped-then-r-ne0.ensures _ c.in-Some.is _ c.pool_length.ensures c.if-pool_length-m.false _ _ _ _ _ c.loop-at.invariant.3 c.hand_tested-r.ensures refl c.if-r-ne0.true

pub applied-m-requires : goal.applied-m-requires
applied-m-requires c = omega (arith, c.loop-at.invariant.0.few, c.loop-at-test.true, c.well_formed.0.1)

pub loop-at-smaller : goal.loop-at-smaller
loop-at-smaller c = let w = whole_placed _ _ c.loop-at-test.true _ _ c.in-Some.is c.next_file.ensures in omega (arith, c.loop-at-test.true)

pub loop-at-preserved : goal.loop-at-preserved
loop-at-preserved c = (going_on _ _ _ _ _ _ _ c.loop-at.invariant.0 c.loop-at-test.true _ c.next_file.ensures _ c.in-Some.is _ c.pool_length.ensures c.if-pool_length-m.false _ _ _ _ _ c.loop-at.invariant.3 c.hand_tested-r.ensures c.if-r-ne0.false _ c.applied-m.ensures (λ k. omega (arith, c.type_inv.list k)), omega (arith, c.loop-at.invariant.1, c.hand_tested-r.auto.first), omega (arith, c.loop-at.invariant.2, c.hand_tested-r.auto.second), omega (arith, c.loop-at.invariant.3, c.hand_tested-r.auto.work))

pub returns : goal.returns
returns c = ran_over _ _ _ _ _ _ _ c.loop-at.invariant.0 c.loop-at-test.false
