use Rattle.emission.proofs.VersionLaws.{foid_none, foid_room, foid_some, source_old, source_new}
use Rattle.emission.proofs.writer.put_foid.Goals as goal

pub returns-then-v-eq0 : goal.returns-then-v-eq0
returns-then-v-eq0 c = foid_none _ _ _ _ _ c.requires c.if-v-eq0.true

pub put_list-requires : goal.put_list-requires
put_list-requires c = foid_room c.args.d.now c.args.u.now c.args.v c.args.at c.args.out.now c.requires c.args.d.now (source_old _ _ _ c.if-v-eq0-2.true) c.if-v-eq0.false

pub returns-then-v-eq0-2 : goal.returns-then-v-eq0-2
returns-then-v-eq0-2 c = foid_some _ _ _ _ _ c.requires _ (source_old _ _ _ c.if-v-eq0-2.true) c.if-v-eq0.false _ _ c.put_list.ensures

pub put_list-requires-else-v-eq0-2 : goal.put_list-requires-else-v-eq0-2
put_list-requires-else-v-eq0-2 c = foid_room c.args.d.now c.args.u.now c.args.v c.args.at c.args.out.now c.requires c.args.u.now (source_new _ _ _ c.if-v-eq0-2.false) c.if-v-eq0.false

pub returns-else-v-eq0-2 : goal.returns-else-v-eq0-2
returns-else-v-eq0-2 c = foid_some _ _ _ _ _ c.requires _ (source_new _ _ _ c.if-v-eq0-2.false) c.if-v-eq0.false _ _ c.put_list-else-v-eq0-2.ensures
