-- `other_foid` meets its contract. Assumes nothing.
use Rattle.changing.proofs.SameLaws.{same_word, same_bounded, same_start, number_word, same_done, body_runs, body_inside, body_word, same_falls, field_filled, same_turn, same_other}
use native.Mathlib.Omega.{arith}
use Rattle.changing.proofs.foid.other_foid.Goals as goal

pub overflow_add-stop : goal.overflow_add-stop
overflow_add-stop c = omega (arith, same_word _ _ _ _ _ _ c.requires)

pub loop-field-init : goal.loop-field-init
loop-field-init c = same_start _ _ _ _ _ _ c.requires

pub slice_bounds-place_at-count : goal.slice_bounds-place_at-count
slice_bounds-place_at-count c = omega arith

pub slice_bounds-place_at-start : goal.slice_bounds-place_at-start
slice_bounds-place_at-start c = omega arith

pub slice_bounds-place_at-end : goal.slice_bounds-place_at-end
slice_bounds-place_at-end c = c.loop-field.invariant.inside

pub place_at-requires : goal.place_at-requires
place_at-requires c = same_bounded _ _ _ _ _ _ c.requires

pub overflow_add-at : goal.overflow_add-at
overflow_add-at c = omega (arith, body_runs _ _ _ _ _ _ _ _ c.loop-field.invariant _ c.place_at.ensures _ c.in-Some.is, body_word _ _ _ _ _ _ _ _ c.loop-field.invariant _ c.place_at.ensures _ c.in-Some.is)

pub overflow_add-at-in-Some : goal.overflow_add-at-in-Some
overflow_add-at-in-Some c = omega (arith, body_word _ _ _ _ _ _ _ _ c.loop-field.invariant _ c.place_at.ensures _ c.in-Some.is)

pub agrees-requires : goal.agrees-requires
agrees-requires c = let p = c.requires in (body_runs _ _ _ _ _ _ _ _ c.loop-field.invariant _ c.place_at.ensures _ c.in-Some.is, body_inside _ _ _ _ _ _ _ _ c.loop-field.invariant _ c.place_at.ensures _ c.in-Some.is, p.1, p.2, field_filled _ _ _ _ _ _ _ _ c.loop-field.invariant _ c.place_at.ensures _ c.in-Some.is, p.4)

pub overflow_add-i : goal.overflow_add-i
overflow_add-i c = omega (arith, number_word _ _ _ _ _ _ _ _ c.loop-field.invariant)

pub loop-field-smaller : goal.loop-field-smaller
loop-field-smaller c = same_falls _ _ _ _ _ _ _ _ c.loop-field.invariant _ c.place_at.ensures _ c.in-Some.is

pub loop-field-preserved : goal.loop-field-preserved
loop-field-preserved c = same_turn _ _ _ _ _ _ _ _ c.loop-field.invariant _ c.place_at.ensures _ c.in-Some.is _ c.agrees.ensures c.if-not-agrees.false

pub returns-then-not-agrees : goal.returns-then-not-agrees
returns-then-not-agrees c = same_other _ _ _ _ _ _ _ _ c.loop-field.invariant _ c.place_at.ensures _ c.in-Some.is _ c.agrees.ensures c.if-not-agrees.true

pub returns : goal.returns
returns c = same_done _ _ _ _ _ _ _ _ c.loop-field.invariant _ c.place_at.ensures c.in_default.is
