-- `load_fields` meets its contract. Assumes nothing.
use Rattle.loading.proofs.FieldsLaws.{load_start, load_inside, load_falls, load_from, load_to, load_ready, load_turn, load_done, fields_ways}
use native.Mathlib.Omega.{arith}
use Rattle.loading.proofs.record.load_fields.Goals as goal

pub loop-field-init : goal.loop-field-init
loop-field-init c = load_start _ _ _ _ _ _ _ _ c.requires.1

pub overflow_add-at : goal.overflow_add-at
overflow_add-at c = search fields_ways

pub slice_bounds-place_at-count : goal.slice_bounds-place_at-count
slice_bounds-place_at-count c = omega arith

pub slice_bounds-place_at-start : goal.slice_bounds-place_at-start
slice_bounds-place_at-start c = omega arith

pub slice_bounds-place_at-end : goal.slice_bounds-place_at-end
slice_bounds-place_at-end c = load_inside _ _ _ _ _ _ _ _ _ _ _ c.loop-field.invariant

pub place_at-requires : goal.place_at-requires
place_at-requires c = c.requires.0

pub overflow_add-at-in-Some : goal.overflow_add-at-in-Some
overflow_add-at-in-Some c = record { fits = load_from _ _ _ _ _ _ _ _ _ _ _ c.loop-field.invariant _ c.place_at.ensures _ c.in-Some.is }

pub overflow_add-at-in-Some-2 : goal.overflow_add-at-in-Some-2
overflow_add-at-in-Some-2 c = record { fits = load_to _ _ _ _ _ _ _ _ _ _ _ c.loop-field.invariant _ c.place_at.ensures _ c.in-Some.is }

pub load_field-r-requires : goal.load_field-r-requires
load_field-r-requires c = load_ready _ _ _ _ _ _ _ _ _ _ _ c.loop-field.invariant _ c.place_at.ensures _ c.in-Some.is

pub loop-field-smaller : goal.loop-field-smaller
loop-field-smaller c = load_falls _ _ _ _ _ _ _ _ _ _ _ c.loop-field.invariant _ c.place_at.ensures _ c.in-Some.is

pub loop-field-preserved : goal.loop-field-preserved
loop-field-preserved c = load_turn _ _ _ _ _ _ _ _ _ _ _ c.loop-field.invariant _ c.place_at.ensures _ c.in-Some.is _ _ c.load_field-r.auto.work c.load_field-r.ensures

pub shape_of-work : goal.shape_of-work
shape_of-work c = c.loop-field.invariant.long

pub returns : goal.returns
returns c = load_done _ _ _ _ _ _ _ _ _ _ _ c.loop-field.invariant _ c.place_at.ensures c.in_default.is
