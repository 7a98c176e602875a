-- `delete` meets its contract. Assumes nothing.
use Rattle.changing.proofs.ActLaws.{delete_made, delete_absent, delete_not}
use Rattle.changing.proofs.acts.delete.Goals as goal

pub returns-in_default : goal.returns-in_default
returns-in_default c = λ k fs d u w o x a. delete_absent _ _ k fs d u w o x a c.in_default.is

pub returns-then-not-follows : goal.returns-then-not-follows
returns-then-not-follows c = λ k fs d u w o x a. delete_not _ _ k fs d u w o x a _ c.in-Some.is _ c.follows.ensures c.if-not-follows.true

pub returns : goal.returns
returns c = λ k fs d u w o x a. delete_made _ _ k fs d u w o x a _ c.in-Some.is _ c.follows.ensures c.if-not-follows.false
