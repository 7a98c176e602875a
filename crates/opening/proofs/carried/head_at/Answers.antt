use mathlib.Core.Logic.{inl, inr}
use borrow.Author.Rules.{rules}
use Rattle.opening.proofs.CarriedLaws.{head_broken, head_ways}
use Rattle.opening.proofs.carried.head_at.Goals as goal

pub returns-then-f-p : goal.returns-then-f-p
returns-then-f-p c = search head_ways

pub returns-in_err-record_at : goal.returns-in_err-record_at
returns-in_err-record_at c = head_broken _ _ _ (search (rules, inl, inr)) _ c.record_at.ensures _ c.in_err-record_at.was _ c.from_residual.ensures.1

pub returns : goal.returns
returns c = search (rules, head_ways)
