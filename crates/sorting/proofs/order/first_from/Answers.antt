use Rattle.sorting.proofs.NumberLaws.{halved_up, halved_down}
use Rattle.sorting.proofs.NumberLaws.{numbers_turn}
use native.Mathlib.Omega.{arith}
use Rattle.sorting.proofs.order.first_from.Goals as goal

pub loop-lo-init : goal.loop-lo-init
loop-lo-init c = search numbers_turn

pub loop-lo-preserved-then-number_at-w : goal.loop-lo-preserved-then-number_at-w
loop-lo-preserved-then-number_at-w c = halved_up _ _ _ _ _ c.requires.1 c.loop-lo.invariant _ (omega arith) (omega arith) _ c.number_at.ensures c.if-number_at-w.true

pub loop-lo-preserved : goal.loop-lo-preserved
loop-lo-preserved c = halved_down _ _ _ _ _ c.requires.1 c.loop-lo.invariant _ (omega arith) (omega arith) _ c.number_at.ensures c.if-number_at-w.false

pub returns : goal.returns
returns c = search numbers_turn
