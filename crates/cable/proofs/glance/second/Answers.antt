-- `second` meets its contract. Assumes nothing.
use Rattle.cable.proofs.GlanceLaws.{wide, second_refused, second_none, second_there, start_word, end_word, second_ways}
use Rattle.cable.proofs.glance.second.Goals as goal

pub returns-in_default : goal.returns-in_default
returns-in_default c = second_refused _ _ _ c.stated_at.ensures _ c.in_default.is

pub returns-then-head-gt9 : goal.returns-then-head-gt9
returns-then-head-gt9 c = wide _ _ c.requires _ c.stated_at.ensures _ c.in-Ok.is c.then-head-gt9.either

pub overflow_add-e : goal.overflow_add-e
overflow_add-e c = search second_ways

pub slice_bounds-place_at-end : goal.slice_bounds-place_at-end
slice_bounds-place_at-end c = search second_ways

pub place_at-requires : goal.place_at-requires
place_at-requires c = search second_ways

pub returns-in_err-field : goal.returns-in_err-field
returns-in_err-field c = rw c.from_residual.ensures (second_none _ _ c.requires _ c.stated_at.ensures _ c.in-Ok.is c.if-head-gt9.false c.if-head-gt9-2.false _ c.place_at.ensures c.in_err-field.was)

pub overflow_add-result : goal.overflow_add-result
overflow_add-result c = let word = start_word _ _ c.requires _ c.stated_at.ensures _ c.in-Ok.is c.if-head-gt9.false c.if-head-gt9-2.false _ c.place_at.ensures _ c.in_ok-field.was in search (word, second_ways)

pub overflow_add-result-2 : goal.overflow_add-result-2
overflow_add-result-2 c = let word = end_word _ _ c.requires _ c.stated_at.ensures _ c.in-Ok.is c.if-head-gt9.false c.if-head-gt9-2.false _ c.place_at.ensures _ c.in_ok-field.was in search (word, second_ways)

pub returns : goal.returns
returns c = second_there _ _ c.requires _ c.stated_at.ensures _ c.in-Ok.is c.if-head-gt9.false c.if-head-gt9-2.false _ c.place_at.ensures _ c.in_ok-field.was
