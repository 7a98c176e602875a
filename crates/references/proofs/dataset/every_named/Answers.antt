use mathlib.Core.Path.{refl}
use Rattle.references.proofs.DatasetLaws.{record_more, records_turn}
use borrow.Author.Rules.{rules}
use Rattle.references.proofs.dataset.every_named.Goals as goal

pub loop-head-init : goal.loop-head-init
loop-head-init c = (refl, refl, search rules, search records_turn)

pub overflow_add-e : goal.overflow_add-e
overflow_add-e c = search records_turn

pub slice_bounds-record_named-count : goal.slice_bounds-record_named-count
slice_bounds-record_named-count c = search records_turn

pub slice_bounds-record_named-start : goal.slice_bounds-record_named-start
slice_bounds-record_named-start c = search records_turn

pub slice_bounds-record_named-end : goal.slice_bounds-record_named-end
slice_bounds-record_named-end c = search records_turn

pub record_named-requires : goal.record_named-requires
record_named-requires c = (search rules, search records_turn, search records_turn, search records_turn, search records_turn)

pub loop-head-smaller : goal.loop-head-smaller
loop-head-smaller c = search records_turn

pub loop-head-preserved : goal.loop-head-preserved
loop-head-preserved c = let more = record_more _ _ _ _ c.loop-head.invariant.3 _ c.stated_at.ensures _ c.in-Ok.is _ c.record_named.ensures.0 c.in-Ok-record_named.is in
    (search rules, search rules, search rules, more)

pub overflow_add-result : goal.overflow_add-result
overflow_add-result c = search records_turn

pub returns-in-Err : goal.returns-in-Err
returns-in-Err c = search records_turn

pub returns : goal.returns
returns c = search records_turn
