use Rattle.emission.proofs.VersionLaws.{index_first, index_foid, index_attr, index_last, index_written}
use Rattle.emission.proofs.directory.put_directory.Goals as goal

pub put_entry-p1-requires : goal.put_entry-p1-requires
put_entry-p1-requires c = index_first c.args.d.now c.args.u.now c.args.inas.now c.args.v c.args.m c.args.at c.args.out.now c.requires

pub put_list_entry-p2-requires : goal.put_list_entry-p2-requires
put_list_entry-p2-requires c = index_foid c.args.d.now c.args.u.now c.args.inas.now c.args.v c.args.m c.args.at c.args.out.now c.requires _ _ _ _ _ c.ident_size-pos1.ensures c.first_tag.ensures c.put_entry-p1.ensures c.foid_size-foid.ensures

pub put_list_entry-p3-requires : goal.put_list_entry-p3-requires
put_list_entry-p3-requires c = index_attr c.args.d.now c.args.u.now c.args.inas.now c.args.v c.args.m c.args.at c.args.out.now c.requires _ _ _ _ _ c.ident_size-pos1.ensures c.first_tag.ensures c.put_entry-p1.ensures c.foid_size-foid.ensures _ _ c.put_list_entry-p2.ensures c.put_list_entry-p2.auto.out

pub put_last_entries-requires : goal.put_last_entries-requires
put_last_entries-requires c = let g = index_last c.args.d.now c.args.u.now c.args.inas.now c.args.v c.args.m c.args.at c.args.out.now c.requires _ _ _ _ _ c.ident_size-pos1.ensures c.first_tag.ensures c.put_entry-p1.ensures c.foid_size-foid.ensures _ _ c.put_list_entry-p2.ensures c.put_list_entry-p2.auto.out _ _ _ _ c.list_size.ensures c.put_list_entry-p3.ensures c.list_size-2.ensures c.put_list_entry-p3.auto.out in record { indexed = g.0; pos_bound = g.1 }

pub returns : goal.returns
returns c = index_written c.args.d.now c.args.u.now c.args.inas.now c.args.v c.args.m c.args.at c.args.out.now c.requires _ _ _ _ _ c.ident_size-pos1.ensures c.first_tag.ensures c.put_entry-p1.ensures c.foid_size-foid.ensures _ _ c.put_list_entry-p2.ensures c.put_list_entry-p2.auto.out _ _ _ _ c.list_size.ensures c.put_list_entry-p3.ensures c.list_size-2.ensures _ _ c.put_last_entries.ensures
