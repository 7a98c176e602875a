use Rattle.writing.proofs.WriterLaws.{directory_turn}
use Rattle.writing.proofs.writer.put_directory.Goals as goal

pub loop-field-init : goal.loop-field-init
loop-field-init c = search directory_turn

pub overflow_add-field : goal.overflow_add-field
overflow_add-field c = search directory_turn

pub put_entry-p-requires : goal.put_entry-p-requires
put_entry-p-requires c = search directory_turn

pub overflow_add-pos : goal.overflow_add-pos
overflow_add-pos c = search directory_turn

pub overflow_add-pos-in-Some : goal.overflow_add-pos-in-Some
overflow_add-pos-in-Some c = search directory_turn

pub loop-field-smaller : goal.loop-field-smaller
loop-field-smaller c = search directory_turn

pub loop-field-preserved : goal.loop-field-preserved
loop-field-preserved c = search directory_turn

pub returns : goal.returns
returns c = search directory_turn
