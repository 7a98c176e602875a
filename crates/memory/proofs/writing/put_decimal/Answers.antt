-- `put_decimal` meets its contract: the last w - k characters are stored, and the first k are the lowest of `rest`. Assumes nothing.
use Rattle.memory.proofs.DigitLaws.{length_decimal, decimal_start, decimal_turn}
use Rattle.memory.proofs.LoopLaws.{stored_none, stored_down, stored_all}
use Rattle.memory.proofs.WroteLaws.{wrote}
use native.Mathlib.Omega.{arith}
use Rattle.memory.proofs.writing.put_decimal.Goals as goal

pub loop-k-init : goal.loop-k-init
loop-k-init c = (stored_none _ _ _ _ _ (length_decimal _ _) (omega arith), decimal_start _ _)

pub loop-k-preserved : goal.loop-k-preserved
loop-k-preserved c = let l = c.loop-k in
    let turn = c.loop-k-test.true in
    let next = decimal_turn _ _ _ turn l.invariant.1 in
    (stored_down l.invariant.0 turn next.0, next.1)

pub returns : goal.returns
returns c = wrote (length_decimal _ _) (omega arith) (stored_all c.loop-k.invariant.0 c.loop-k-test.false (omega arith))
