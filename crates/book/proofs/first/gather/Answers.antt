use mathlib.Core.Path.{refl}
use Rattle.book.proofs.FirstLaws.{gather_turn}
use borrow.Author.Rules.{rules}
use native.Mathlib.Omega.{arith}
use Rattle.book.proofs.first.gather.Goals as goal

pub loop-y-init : goal.loop-y-init
loop-y-init c = (refl, refl, omega arith, search rules, search rules, search gather_turn)

pub overflow_add-q : goal.overflow_add-q
overflow_add-q c = search gather_turn

pub loop-y-preserved : goal.loop-y-preserved
loop-y-preserved c = (search rules, search rules, omega arith, omega arith, search gather_turn, search gather_turn)

pub returns-in_default : goal.returns-in_default
returns-in_default c = (search gather_turn, search gather_turn)

pub returns : goal.returns
returns c = (search gather_turn, search gather_turn)
