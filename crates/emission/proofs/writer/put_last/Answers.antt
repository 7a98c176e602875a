use Rattle.emission.proofs.VersionLaws.{last_inas, last_coord, last_spas, last_written}
use Rattle.emission.proofs.writer.put_last.Goals as goal

pub put_inas_fields-p1-requires : goal.put_inas_fields-p1-requires
put_inas_fields-p1-requires c = last_inas c.args.d.now c.args.u.now c.args.list.now c.args.inas.now c.args.spas.now c.args.v c.args.at c.args.out.now (c.requires.few, c.requires.room)

pub put_list-p2-requires : goal.put_list-p2-requires
put_list-p2-requires c = last_coord c.args.d.now c.args.u.now c.args.list.now c.args.inas.now c.args.spas.now c.args.v c.args.at c.args.out.now (c.requires.few, c.requires.room) _ _ c.put_inas_fields-p1.ensures

pub put_spatial-requires : goal.put_spatial-requires
put_spatial-requires c = last_spas c.args.d.now c.args.u.now c.args.list.now c.args.inas.now c.args.spas.now c.args.v c.args.at c.args.out.now (c.requires.few, c.requires.room) _ _ c.put_inas_fields-p1.ensures _ _ c.put_list-p2.ensures

pub returns : goal.returns
returns c = last_written c.args.d.now c.args.u.now c.args.list.now c.args.inas.now c.args.spas.now c.args.v c.args.at c.args.out.now (c.requires.few, c.requires.room) _ _ c.put_inas_fields-p1.ensures _ _ c.put_list-p2.ensures _ _ c.put_spatial.ensures
