use Rattle.tree.proofs.DueLaws.{by_turn}
use lib.ListN.{length-take}
use mathlib.Core.Path.{refl}
use borrow.Author.Rules.{rules}
use native.Mathlib.Omega.{arith}
use Rattle.tree.proofs.due.due_by.Goals as goal

pub loop-x-init : goal.loop-x-init
loop-x-init c = (refl, refl, search rules, search by_turn)

pub block_due-requires : goal.block_due-requires
block_due-requires c = (search rules, search by_turn, simp length-take (omega arith), search rules)

pub returns : goal.returns
returns c = λ _. search by_turn
