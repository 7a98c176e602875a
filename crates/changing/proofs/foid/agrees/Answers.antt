-- `agrees` meets its contract. Assumes nothing.
use borrow.Author.Tests.{ne_eqb}
use Rattle.rules.specs.Tags.{FOID}
use Rattle.changing.proofs.SameLaws.{agrees_foid, agrees_other}
use Rattle.changing.proofs.foid.agrees.Goals as goal

pub held_foid-requires : goal.held_foid-requires
held_foid-requires c = let p = c.requires in (p.0, p.1, p.2, p.3, p.4 c.if-tag-ne-FOID.false, p.5)

pub returns-then-tag-ne-FOID : goal.returns-then-tag-ne-FOID
returns-then-tag-ne-FOID c = rw (ne_eqb c.args.tag FOID c.if-tag-ne-FOID.true) (agrees_other _ _ _ c.if-tag-ne-FOID.true)

pub returns-else-tag-ne-FOID : goal.returns-else-tag-ne-FOID
returns-else-tag-ne-FOID c = agrees_foid _ _ _ c.if-tag-ne-FOID.false _ c.held_foid.ensures
