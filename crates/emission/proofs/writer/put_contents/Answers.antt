use Rattle.emission.proofs.VersionLaws.{contents_first, contents_foid, contents_attributes, contents_last, contents_written}
use Rattle.emission.proofs.writer.put_contents.Goals as goal

pub put_first-p1-requires : goal.put_first-p1-requires
put_first-p1-requires c = contents_first c.args.d.now c.args.u.now c.args.list.now c.args.inas.now c.args.spas.now c.args.v c.args.m c.args.at c.args.out.now (c.requires.indexed, c.requires.room)

pub put_foid-p2-requires : goal.put_foid-p2-requires
put_foid-p2-requires c = contents_foid c.args.d.now c.args.u.now c.args.list.now c.args.inas.now c.args.spas.now c.args.v c.args.m c.args.at c.args.out.now (c.requires.indexed, c.requires.room) _ _ c.put_first-p1.ensures

pub put_attributes-p3-requires : goal.put_attributes-p3-requires
put_attributes-p3-requires c = let g = contents_attributes c.args.d.now c.args.u.now c.args.list.now c.args.inas.now c.args.spas.now c.args.v c.args.m c.args.at c.args.out.now (c.requires.indexed, c.requires.room) _ _ c.put_first-p1.ensures _ _ c.put_foid-p2.ensures in record { n_in_bounds = g.0; sized = g.1 }

pub put_last-requires : goal.put_last-requires
put_last-requires c = let g = contents_last c.args.d.now c.args.u.now c.args.list.now c.args.inas.now c.args.spas.now c.args.v c.args.m c.args.at c.args.out.now (c.requires.indexed, c.requires.room) _ _ c.put_first-p1.ensures _ _ c.put_foid-p2.ensures _ _ c.put_attributes-p3.ensures c.put_attributes-p3.auto.out in record { few = g.0; room = g.1 }

pub returns : goal.returns
returns c = contents_written c.args.d.now c.args.u.now c.args.list.now c.args.inas.now c.args.spas.now c.args.v c.args.m c.args.at c.args.out.now (c.requires.indexed, c.requires.room) _ _ c.put_first-p1.ensures _ _ c.put_foid-p2.ensures _ _ c.put_attributes-p3.ensures _ _ _ _ c.put_last.ensures
