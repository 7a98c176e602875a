use borrow.Author.Tests.{le-ltb, lt-ltb, eq-eqb, ne_eqb}
use Rattle.skeleton.specs.Directory.{ended}
use Rattle.skeleton.proofs.directory.at_end.Goals as goal

pub returns-then-p-le24 : goal.returns-then-p-le24
unfolding ended
returns-then-p-le24 c = simp (le-ltb _ _ c.if-p-le24.true)

pub returns-then-p-base : goal.returns-then-p-base
unfolding ended
returns-then-p-base c = simp (lt-ltb _ _ c.if-p-le24.false, ne_eqb _ _ c.if-p-base.true)

pub returns : goal.returns
unfolding ended
returns c = simp (lt-ltb _ _ c.if-p-le24.false, eq-eqb _ _ c.if-p-base.false)
