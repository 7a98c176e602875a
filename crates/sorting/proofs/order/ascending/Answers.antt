use Rattle.sorting.proofs.NumberLaws.{numbers_turn}
use Rattle.sorting.proofs.order.ascending.Goals as goal

pub loop-i-init : goal.loop-i-init
loop-i-init c = search numbers_turn

pub returns-then-x-last : goal.returns-then-x-last
returns-then-x-last c = search numbers_turn

pub loop-i-preserved : goal.loop-i-preserved
loop-i-preserved c = search numbers_turn

pub returns : goal.returns
returns c = search numbers_turn
