use borrow.Author.Tests.{le-leb, lt-leb, eq-eqb, ne_eqb}
use Rattle.skeleton.specs.Directory.{lies}
use Rattle.skeleton.proofs.directory.in_place.Goals as goal

pub returns-then-pos-at : goal.returns-then-pos-at
unfolding lies
returns-then-pos-at c = simp (ne_eqb _ _ c.if-pos-at.true)

pub returns-then-len-eq0 : goal.returns-then-len-eq0
unfolding lies
returns-then-len-eq0 c = simp (eq-eqb _ _ c.if-pos-at.false, eq-eqb _ _ c.if-len-eq0.true)

pub returns-then-r-after : goal.returns-then-r-after
unfolding lies
returns-then-r-after c = simp (eq-eqb _ _ c.if-pos-at.false, ne_eqb _ _ c.if-len-eq0.false, lt-leb _ _ c.if-r-after.true)

pub returns : goal.returns
unfolding lies
returns c = simp (eq-eqb _ _ c.if-pos-at.false, ne_eqb _ _ c.if-len-eq0.false, le-leb _ _ c.if-r-after.false)
