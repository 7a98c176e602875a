use borrow.Author.Tests.{le-leb, lt-leb, eq-eqb, ne_eqb}
use Rattle.skeleton.specs.Digits.{is_digit}
use Rattle.skeleton.specs.Leader.{fits_byte}
use Rattle.skeleton.proofs.leader.suits.Goals as goal

pub returns-then-x-ge48 : goal.returns-then-x-ge48
unfolding fits_byte is_digit
returns-then-x-ge48 c = simp (eq-eqb _ _ c.if-t-eq35.true, le-leb _ _ c.if-x-ge48.true)

pub returns-else-x-ge48 : goal.returns-else-x-ge48
unfolding fits_byte is_digit
returns-else-x-ge48 c = simp (eq-eqb _ _ c.if-t-eq35.true, lt-leb _ _ c.if-x-ge48.false)

pub returns-then-x-ge49 : goal.returns-then-x-ge49
unfolding fits_byte
returns-then-x-ge49 c = simp (ne_eqb _ _ c.if-t-eq35.false, eq-eqb _ _ c.if-t-eq43.true, le-leb _ _ c.if-x-ge49.true)

pub returns-else-x-ge49 : goal.returns-else-x-ge49
unfolding fits_byte
returns-else-x-ge49 c = simp (ne_eqb _ _ c.if-t-eq35.false, eq-eqb _ _ c.if-t-eq43.true, lt-leb _ _ c.if-x-ge49.false)

pub returns : goal.returns
unfolding fits_byte
returns c = simp (ne_eqb _ _ c.if-t-eq35.false, ne_eqb _ _ c.if-t-eq43.false)
