use Rattle.following.proofs.WholeLaws.{whole_ways, merged_fields, merged_wrote}
use borrow.Author.Rules.{rules}
use Rattle.following.proofs.merging.write_merged.Goals as goal

pub put_leader-p1-requires : goal.put_leader-p1-requires
put_leader-p1-requires c = search whole_ways

pub put_directory-p2-requires : goal.put_directory-p2-requires
put_directory-p2-requires c = record { passing = search whole_ways; hn_in_bounds = search whole_ways }

pub put_byte-p3-requires : goal.put_byte-p3-requires
put_byte-p3-requires c = search whole_ways

pub put_fields-requires : goal.put_fields-requires
put_fields-requires c = record { passing = search rules; hn_in_bounds = merged_fields _ _ _ _ c.requires.ho_value.1 _ _ c.requires.hn_in_bounds _ _ _ _ c.put_leader-p1.ensures.1 _ _ c.put_directory-p2.ensures _ _ c.put_byte-p3.ensures.1 }

pub returns : goal.returns
returns c = merged_wrote _ _ _ _ c.requires.ho_value.1 _ c.count_parts-s.ensures c.put_leader-p1.ensures.1 c.put_directory-p2.ensures c.put_byte-p3.ensures.1 c.put_fields.ensures
