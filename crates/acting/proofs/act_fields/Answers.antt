-- `act_fields` meets its contract. Assumes nothing.
use mathlib.Core.Path.{◌∙◌}
use Rattle.acting.proofs.PartLaws.{from_start}
use Rattle.acting.proofs.FieldsLaws.{going_start, modify_word, going_inside, going_shape, going_done, going_falls, going_from, going_to, going_number, going_ready, going_wrong, going_turn}
use native.Mathlib.Omega.{arith}
use Rattle.acting.proofs.act_fields.Goals as goal

pub overflow_add-end : goal.overflow_add-end
overflow_add-end c = record { fits = modify_word _ _ _ _ _ c.requires.2 c.requires.0 }

pub loop-field-init : goal.loop-field-init
loop-field-init c = going_start _ _ _ _ _ _ _ c.requires.0 c.requires.1 c.requires.2 c.requires.3 c.requires.4 c.requires.5 (λ k. omega (arith, c.type_inv.d k)) (λ k. omega (arith, c.type_inv.u k))

pub slice_bounds-place_at-count : goal.slice_bounds-place_at-count
slice_bounds-place_at-count c = from_start _ _

pub slice_bounds-place_at-start : goal.slice_bounds-place_at-start
slice_bounds-place_at-start c = from_start _ _

pub slice_bounds-place_at-end : goal.slice_bounds-place_at-end
slice_bounds-place_at-end c = going_inside _ _ _ _ _ _ _ _ _ _ _ c.loop-field.invariant

pub place_at-requires : goal.place_at-requires
place_at-requires c = going_shape _ _ _ _ _ _ _ _ _ _ _ c.loop-field.invariant

pub overflow_add-from : goal.overflow_add-from
overflow_add-from c = record { fits = going_from _ _ _ _ _ _ _ _ _ _ _ c.loop-field.invariant _ c.place_at.ensures _ c.in-Some.is }

pub overflow_add-to : goal.overflow_add-to
overflow_add-to c = record { fits = going_to _ _ _ _ _ _ _ _ _ _ _ c.loop-field.invariant _ c.place_at.ensures _ c.in-Some.is }

pub act_field-requires : goal.act_field-requires
act_field-requires c = going_ready _ _ _ _ _ _ _ _ _ _ _ c.loop-field.invariant _ c.place_at.ensures _ c.in-Some.is

pub overflow_add-i : goal.overflow_add-i
overflow_add-i c = record { fits = going_number _ _ _ _ _ _ _ _ _ _ _ c.loop-field.invariant _ c.place_at.ensures _ c.in-Some.is }

pub loop-field-smaller : goal.loop-field-smaller
loop-field-smaller c = going_falls _ _ _ _ _ _ _ _ _ _ _ c.loop-field.invariant _ c.place_at.ensures _ c.in-Some.is

pub loop-field-preserved : goal.loop-field-preserved
loop-field-preserved c = going_turn _ _ _ _ _ _ _ _ _ _ _ c.loop-field.invariant _ c.place_at.ensures _ c.in-Some.is _ c.act_field.auto.work _ c.act_field.ensures _ c.in-Ok.is

pub shape_of-work-in-Err : goal.shape_of-work-in-Err
shape_of-work-in-Err c = c.act_field.auto.work ∙ c.loop-field.invariant.long

pub returns-in-Err : goal.returns-in-Err
returns-in-Err c = going_wrong _ _ _ _ _ _ _ _ _ _ _ c.loop-field.invariant _ c.place_at.ensures _ c.in-Some.is _ _ c.act_field.ensures _ c.in-Err.is

pub shape_of-work : goal.shape_of-work
shape_of-work c = c.loop-field.invariant.long

pub returns : goal.returns
returns c = going_done _ _ _ _ _ _ _ _ _ _ _ c.loop-field.invariant _ c.place_at.ensures c.in_default.is
