use mathlib.Core.Path.{refl}
use Rattle.book.proofs.FirstLaws.{mark_turn}
use borrow.Author.Rules.{rules}
use Rattle.book.proofs.first.mark.Goals as goal

pub loop-init : goal.loop-init
loop-init c = (refl, search rules, search rules)

pub overflow_add-p : goal.overflow_add-p
overflow_add-p c = search mark_turn

pub loop-preserved : goal.loop-preserved
loop-preserved c = (search rules, search mark_turn, search mark_turn)

pub returns-in_default : goal.returns-in_default
returns-in_default c = search mark_turn

pub returns : goal.returns
returns c = search mark_turn
