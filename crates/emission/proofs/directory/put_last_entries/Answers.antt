use native.Mathlib.Omega.{arith}
use Rattle.emission.proofs.VersionLaws.{entries_inas, entries_coord, entries_spas, entries_last}
use Rattle.emission.proofs.directory.put_last_entries.Goals as goal

pub put_inas_entries-p1-requires : goal.put_inas_entries-p1-requires
put_inas_entries-p1-requires c = entries_inas c.args.d.now c.args.u.now c.args.inas.now c.args.v c.args.m c.args.at c.args.pos c.args.out.now (c.requires.indexed, c.requires.pos_bound)

pub put_list_entry-p2-requires : goal.put_list_entry-p2-requires
put_list_entry-p2-requires c = entries_coord c.args.d.now c.args.u.now c.args.inas.now c.args.v c.args.m c.args.at c.args.pos c.args.out.now (c.requires.indexed, c.requires.pos_bound) _ _ c.put_inas_entries-p1.ensures

pub overflow_mul-v : goal.overflow_mul-v
overflow_mul-v c = omega (arith, c.requires.indexed.few.spas)

pub put_list_entry-requires : goal.put_list_entry-requires
put_list_entry-requires c = entries_spas c.args.d.now c.args.u.now c.args.inas.now c.args.v c.args.m c.args.at c.args.pos c.args.out.now (c.requires.indexed, c.requires.pos_bound) _ _ c.put_inas_entries-p1.ensures _ _ _ c.coordinate_tag.ensures c.put_list_entry-p2.ensures c.put_list_entry-p2.auto.out

pub returns : goal.returns
returns c = entries_last c.args.d.now c.args.u.now c.args.inas.now c.args.v c.args.m c.args.at c.args.pos c.args.out.now (c.requires.indexed, c.requires.pos_bound) _ _ c.put_inas_entries-p1.ensures _ _ _ c.coordinate_tag.ensures c.put_list_entry-p2.ensures _ _ _ c.list_size.ensures c.put_list_entry.ensures
