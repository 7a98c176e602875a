use Rattle.writing.proofs.WriterLaws.{record_ways, fields_room_left, wrote_record}
use Rattle.writing.proofs.writer.write_counted.Goals as goal

pub overflow_mul-base : goal.overflow_mul-base
overflow_mul-base c = search record_ways

pub overflow_add-base : goal.overflow_add-base
overflow_add-base c = search record_ways

pub overflow_add-base-2 : goal.overflow_add-base-2
overflow_add-base-2 c = search record_ways

pub put_leader-p1-requires : goal.put_leader-p1-requires
put_leader-p1-requires c = search record_ways

pub put_directory-p2-requires : goal.put_directory-p2-requires
put_directory-p2-requires c = record { bounded = search record_ways; h_in_bounds = search record_ways }

pub put_byte-p3-requires : goal.put_byte-p3-requires
put_byte-p3-requires c = search record_ways

pub put_fields-requires : goal.put_fields-requires
put_fields-requires c = record { bounded = (c.requires.bounded.0, c.requires.bounded.1); h_in_bounds = fields_room_left _ _ _ c.requires.h_in_bounds _ _ _ _ _ c.put_leader-p1.ensures.1 _ _ c.put_directory-p2.ensures _ _ c.put_byte-p3.ensures.1 }

pub returns : goal.returns
returns c = wrote_record _ _ c.requires.bounded.2 _ c.put_leader-p1.ensures.1 c.put_directory-p2.ensures c.put_byte-p3.ensures.1 c.put_fields.ensures
