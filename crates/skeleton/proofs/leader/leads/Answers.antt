use Rattle.skeleton.proofs.leader.leads.Goals as goal

pub returns-then-first : goal.returns-then-first
returns-then-first c = rw c.if-first.true c.begins.ensures

pub returns-else-first : goal.returns-else-first
returns-else-first c = rw c.if-first.false c.begins-else-first.ensures
