use Rattle.writer.proofs.PutLaws.{put_turn}
use Rattle.writer.proofs.put_records.Goals as goal

pub loop-head-init : goal.loop-head-init
loop-head-init c = search put_turn

pub returns : goal.returns
returns c = search put_turn

pub overflow_add-e : goal.overflow_add-e
overflow_add-e c = search put_turn

pub slice_bounds-write_record-count : goal.slice_bounds-write_record-count
slice_bounds-write_record-count c = search put_turn

pub slice_bounds-write_record-start : goal.slice_bounds-write_record-start
slice_bounds-write_record-start c = search put_turn

pub slice_bounds-write_record-end : goal.slice_bounds-write_record-end
slice_bounds-write_record-end c = search put_turn

pub write_record-q-requires : goal.write_record-q-requires
write_record-q-requires c = record { bounded = search put_turn; h_in_bounds = search put_turn }

pub overflow_add-n : goal.overflow_add-n
overflow_add-n c = search put_turn

pub loop-head-smaller : goal.loop-head-smaller
loop-head-smaller c = search put_turn

pub loop-head-preserved : goal.loop-head-preserved
loop-head-preserved c = search put_turn
