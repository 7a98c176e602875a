use Rattle.fields.proofs.CountLaws.{tally_turn}
use mathlib.Core.Path.{refl}
use borrow.Author.Rules.{rules}
use Rattle.fields.proofs.counting.tally_each.Goals as goal

pub loop-p-init : goal.loop-p-init
loop-p-init c = (search rules, search rules, refl)

pub returns-in_default : goal.returns-in_default
returns-in_default c = search tally_turn

pub returns-then-n-p : goal.returns-then-n-p
returns-then-n-p c = search tally_turn

pub loop-p-preserved : goal.loop-p-preserved
loop-p-preserved c = (search rules, search tally_turn, search tally_turn)

pub returns : goal.returns
returns c = search tally_turn
