use mathlib.Core.Path.{refl}
use Rattle.book.proofs.FirstLaws.{fresh_none, repeat_none, repeat_turn}
use borrow.Author.Rules.{rules}
use native.Mathlib.Omega.{arith}
use Rattle.book.proofs.first.first_repeat.Goals as goal

pub loop-x-init : goal.loop-x-init
loop-x-init c = (refl, refl, omega arith, search rules, fresh_none _ _)

pub returns-then-r-e : goal.returns-then-r-e
returns-then-r-e c = search repeat_turn

pub loop-x-preserved : goal.loop-x-preserved
loop-x-preserved c = (search rules, search rules, search rules, search rules, repeat_none _ _ _ _ c.fresh_of-r.ensures c.if-r-e.false)

pub returns : goal.returns
returns c = search repeat_turn
