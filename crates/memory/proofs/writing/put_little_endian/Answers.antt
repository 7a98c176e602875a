-- `put_little_endian` meets its contract: k bytes are stored, and the others are the lowest of `rest`. Assumes nothing.
use Rattle.memory.proofs.DigitLaws.{length_little_endian, little_endian_start, little_endian_turn}
use Rattle.memory.proofs.LoopLaws.{stored_none, stored_up, stored_all}
use Rattle.memory.proofs.WroteLaws.{wrote}
use native.Mathlib.Omega.{arith}
use Rattle.memory.proofs.writing.put_little_endian.Goals as goal

pub loop-k-init : goal.loop-k-init
loop-k-init c = (stored_none _ _ _ _ _ (length_little_endian _ _) (omega arith), little_endian_start _ _)

pub loop-k-preserved : goal.loop-k-preserved
loop-k-preserved c = let l = c.loop-k in
    let turn = c.loop-k-test.true in
    let next = little_endian_turn _ _ _ _ turn l.invariant.1 in
    (stored_up l.invariant.0 turn next.0, next.1)

pub returns : goal.returns
returns c = wrote (length_little_endian _ _) (omega arith) (stored_all c.loop-k.invariant.0 (omega arith) c.loop-k-test.false)
