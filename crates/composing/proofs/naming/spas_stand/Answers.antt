use Rattle.composing.proofs.NamingLaws.{tuples_turn}
use native.Mathlib.Omega.{arith}
use Rattle.composing.proofs.naming.spas_stand.Goals as goal

pub loop-at-init : goal.loop-at-init
loop-at-init c = (omega arith, search tuples_turn, search tuples_turn)

pub returns-then-not-stays : goal.returns-then-not-stays
returns-then-not-stays c = search tuples_turn

pub overflow_add-at : goal.overflow_add-at
overflow_add-at c = search tuples_turn

pub loop-at-smaller : goal.loop-at-smaller
loop-at-smaller c = search tuples_turn

pub loop-at-preserved : goal.loop-at-preserved
loop-at-preserved c = (search tuples_turn, search tuples_turn, search tuples_turn)

pub returns : goal.returns
returns c = search tuples_turn
