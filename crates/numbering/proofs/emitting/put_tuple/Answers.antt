use Rattle.numbering.proofs.BytesLaws.{tuple_written}
use Rattle.numbering.proofs.emitting.put_tuple.Goals as goal

pub returns : goal.returns
returns c = tuple_written _ _ _ _ _ _ _ c.number.ensures.0 c.put_value.ensures c.put_byte-p4.ensures.1 c.put_little_endian-p3.ensures.1 c.put_little_endian-p2.ensures.1 c.put_little_endian-p1.ensures.1
