-- `held_foid` meets its contract. Assumes nothing.
use Rattle.changing.proofs.FoidLaws.{held_none, held_inside, held_right, held_same, slice_old, slice_new}
use native.Mathlib.Omega.{arith}
use Rattle.changing.proofs.foid.held_foid.Goals as goal

pub returns-then-v-eq0 : goal.returns-then-v-eq0
returns-then-v-eq0 c = held_none _ _ _ _ _ c.requires c.if-v-eq0.true

pub overflow_add-i : goal.overflow_add-i
overflow_add-i c = omega (arith, held_inside _ _ _ _ _ c.requires c.if-v-eq0.false _ (slice_old _ _ _ _ _ c.requires c.if-v-eq0-2.true), c.requires.2)

pub slice_bounds-equal_foids-end-then-v-eq0-2 : goal.slice_bounds-equal_foids-end-then-v-eq0-2
slice_bounds-equal_foids-end-then-v-eq0-2 c = held_inside _ _ _ _ _ c.requires c.if-v-eq0.false _ (slice_old _ _ _ _ _ c.requires c.if-v-eq0-2.true)

pub equal_foids-requires : goal.equal_foids-requires
equal_foids-requires c = (c.requires.4, held_right _ _ _ _ _ c.requires c.if-v-eq0.false _ (slice_old _ _ _ _ _ c.requires c.if-v-eq0-2.true))

pub returns-then-v-eq0-2 : goal.returns-then-v-eq0-2
returns-then-v-eq0-2 c = held_same _ _ _ _ _ c.requires c.if-v-eq0.false _ (slice_old _ _ _ _ _ c.requires c.if-v-eq0-2.true) _ c.equal_foids.ensures

pub overflow_add-i-2 : goal.overflow_add-i-2
overflow_add-i-2 c = omega (arith, held_inside _ _ _ _ _ c.requires c.if-v-eq0.false _ (slice_new _ _ _ _ _ c.requires c.if-v-eq0-2.false), c.requires.3)

pub slice_bounds-equal_foids-end-3 : goal.slice_bounds-equal_foids-end-3
slice_bounds-equal_foids-end-3 c = held_inside _ _ _ _ _ c.requires c.if-v-eq0.false _ (slice_new _ _ _ _ _ c.requires c.if-v-eq0-2.false)

pub equal_foids-requires-2 : goal.equal_foids-requires-2
equal_foids-requires-2 c = (c.requires.4, held_right _ _ _ _ _ c.requires c.if-v-eq0.false _ (slice_new _ _ _ _ _ c.requires c.if-v-eq0-2.false))

pub returns : goal.returns
returns c = held_same _ _ _ _ _ c.requires c.if-v-eq0.false _ (slice_new _ _ _ _ _ c.requires c.if-v-eq0-2.false) _ c.equal_foids-2.ensures
