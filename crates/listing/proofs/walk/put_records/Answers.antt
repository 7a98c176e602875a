use borrow.Author.Rules.{rules}
use Rattle.listing.proofs.WalkLaws.{reached_start, reached_ended, record_bounded, record_small, record_passed, record_room, record_more, rows_turn}
use Rattle.listing.proofs.walk.put_records.Goals as goal

pub loop-head-init : goal.loop-head-init
loop-head-init c = reached_start _ _ _ _ c.requires.0 c.requires.1 c.requires.2 c.requires.3 c.requires.4

pub stated_at-requires : goal.stated_at-requires
stated_at-requires c = search rows_turn

pub overflow_add-e : goal.overflow_add-e
overflow_add-e c = search rows_turn

pub slice_bounds-put_record-count : goal.slice_bounds-put_record-count
slice_bounds-put_record-count c = search rows_turn

pub slice_bounds-put_record-start : goal.slice_bounds-put_record-start
slice_bounds-put_record-start c = search rows_turn

pub slice_bounds-put_record-end : goal.slice_bounds-put_record-end
slice_bounds-put_record-end c = search rows_turn

pub put_record-q-requires : goal.put_record-q-requires
put_record-q-requires c = (record_bounded _ _ _ _ _ _ _ _ c.loop-head.invariant _ c.stated_at.ensures _ c.in-Ok.is, record_small _ _ _ _ _ _ _ _ c.loop-head.invariant _ c.stated_at.ensures _ c.in-Ok.is, record_passed _ _ _ _ _ _ _ _ c.loop-head.invariant _ c.stated_at.ensures _ c.in-Ok.is, record_room _ _ _ _ _ _ _ _ c.loop-head.invariant _ c.stated_at.ensures _ c.in-Ok.is)

pub overflow_add-n : goal.overflow_add-n
overflow_add-n c = search rows_turn

pub loop-head-smaller : goal.loop-head-smaller
loop-head-smaller c = search rows_turn

pub loop-head-preserved : goal.loop-head-preserved
loop-head-preserved c = record_more _ _ _ _ _ _ _ _ c.loop-head.invariant _ c.stated_at.ensures _ c.in-Ok.is _ _ c.put_record-q.ensures

pub returns : goal.returns
returns c = search (rules, reached_ended)

pub shape_of-out : goal.shape_of-out
shape_of-out c = search rows_turn
