use Rattle.emission.proofs.IdentLaws.{rcid_room, code_left, rver_room, ruin_room, wrote_ident}
use Rattle.emission.proofs.IdentLaws.{ident_ways}
use Rattle.emission.proofs.identifier.put_ident.Goals as goal

pub put_byte-p1-requires : goal.put_byte-p1-requires
put_byte-p1-requires c = search ident_ways

pub put_little_endian-p2-requires : goal.put_little_endian-p2-requires
put_little_endian-p2-requires c = rcid_room _ _ _ c.requires _ _ _ c.put_byte-p1.ensures

pub put_code-p3-requires : goal.put_code-p3-requires
put_code-p3-requires c = code_left _ _ _ c.requires _ _ _ c.put_byte-p1.ensures _ _ c.put_little_endian-p2.ensures

pub put_little_endian-p4-requires : goal.put_little_endian-p4-requires
put_little_endian-p4-requires c = rver_room _ _ _ c.requires _ _ _ c.put_byte-p1.ensures _ _ c.put_little_endian-p2.ensures _ _ c.put_code-p3.ensures

pub put_byte-requires : goal.put_byte-requires
put_byte-requires c = ruin_room _ _ _ c.requires _ _ _ c.put_byte-p1.ensures _ _ c.put_little_endian-p2.ensures _ _ c.put_code-p3.ensures _ _ c.put_little_endian-p4.ensures

pub returns : goal.returns
returns c = wrote_ident _ _ _ c.requires _ _ _ c.put_byte-p1.ensures _ _ c.put_little_endian-p2.ensures _ _ c.put_code-p3.ensures _ _ c.put_little_endian-p4.ensures c.record_name.ensures _ _ c.put_byte.ensures
