use Rattle.writing.proofs.WriterLaws.{fields_turn}
use Rattle.writing.proofs.writer.put_fields.Goals as goal

pub loop-field-init : goal.loop-field-init
loop-field-init c = search fields_turn

pub overflow_sub-field : goal.overflow_sub-field
overflow_sub-field c = search fields_turn

pub put_part-p1-requires : goal.put_part-p1-requires
put_part-p1-requires c = search fields_turn

pub put_joined-p2-requires : goal.put_joined-p2-requires
put_joined-p2-requires c = search fields_turn

pub put_byte-p-requires : goal.put_byte-p-requires
put_byte-p-requires c = search fields_turn

pub loop-field-smaller : goal.loop-field-smaller
loop-field-smaller c = search fields_turn

pub loop-field-preserved : goal.loop-field-preserved
loop-field-preserved c = search fields_turn

pub returns : goal.returns
returns c = search fields_turn
