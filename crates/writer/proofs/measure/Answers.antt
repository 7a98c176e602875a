use Rattle.writer.proofs.MeasureLaws.{measure_turn}
use Rattle.writer.proofs.measure.Goals as goal

pub loop-head-init : goal.loop-head-init
loop-head-init c = search measure_turn

pub returns : goal.returns
returns c = search measure_turn

pub overflow_add-e : goal.overflow_add-e
overflow_add-e c = search measure_turn

pub slice_bounds-written_length-count : goal.slice_bounds-written_length-count
slice_bounds-written_length-count c = search measure_turn

pub slice_bounds-written_length-start : goal.slice_bounds-written_length-start
slice_bounds-written_length-start c = search measure_turn

pub slice_bounds-written_length-end : goal.slice_bounds-written_length-end
slice_bounds-written_length-end c = search measure_turn

pub written_length-size-requires : goal.written_length-size-requires
written_length-size-requires c = search measure_turn

pub returns-then-size-gt99999 : goal.returns-then-size-gt99999
returns-then-size-gt99999 c = search measure_turn

pub overflow_add-total : goal.overflow_add-total
overflow_add-total c = search measure_turn

pub overflow_add-n : goal.overflow_add-n
overflow_add-n c = search measure_turn

pub loop-head-smaller : goal.loop-head-smaller
loop-head-smaller c = search measure_turn

pub loop-head-preserved : goal.loop-head-preserved
loop-head-preserved c = search measure_turn
