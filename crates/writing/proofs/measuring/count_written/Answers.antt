use Rattle.writing.proofs.MeasuringLaws.{count_turn}
use Rattle.writing.proofs.measuring.count_written.Goals as goal

pub loop-field-init : goal.loop-field-init
loop-field-init c = search count_turn

pub overflow_add-fields : goal.overflow_add-fields
overflow_add-fields c = search count_turn

pub overflow_add-bytes : goal.overflow_add-bytes
overflow_add-bytes c = search count_turn

pub overflow_add-bytes-in-Some : goal.overflow_add-bytes-in-Some
overflow_add-bytes-in-Some c = search count_turn

pub loop-field-smaller : goal.loop-field-smaller
loop-field-smaller c = search count_turn

pub loop-field-preserved : goal.loop-field-preserved
loop-field-preserved c = search count_turn

pub returns : goal.returns
returns c = search count_turn
