use Rattle.composing.proofs.HeldLaws.{held_loose, held_told}
use Rattle.composing.proofs.held.version_stands.Goals as goal

pub returns-then-area_stands : goal.returns-then-area_stands
returns-then-area_stands c = held_told c.args.d.now c.args.ds c.args.u.now c.args.us c.args.flags.now c.args.work.now c.args.v _ c.area_stands.ensures c.if-area_stands.true _ c.area_stands-then-area_stands.ensures

pub returns-else-area_stands : goal.returns-else-area_stands
returns-else-area_stands c = held_loose c.args.d.now c.args.ds c.args.u.now c.args.us c.args.flags.now c.args.work.now c.args.v _ c.area_stands.ensures c.if-area_stands.false
