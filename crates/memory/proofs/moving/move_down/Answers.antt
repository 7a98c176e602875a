-- `move_down` meets its contract: the first k of the n bytes are stored, and those that are read next lie above them. Assumes nothing.
use mathlib.Core.Logic.{inr}
use Rattle.memory.proofs.PutLaws.{length_part, Outside}
use Rattle.memory.proofs.LoopLaws.{stored_none, stored_up, stored_all, stored_unread}
use native.Mathlib.Omega.{arith}
use Rattle.memory.proofs.moving.move_down.Goals as goal

pub loop-k-init : goal.loop-k-init
loop-k-init c = stored_none _ _ _ _ _ (length_part _ _ _ (omega arith)) (omega arith)

pub loop-k-preserved : goal.loop-k-preserved
unfolding Outside
loop-k-preserved c = let l = c.loop-k in let turn = c.loop-k-test.true in stored_up l.invariant turn (stored_unread _ l.invariant l.k turn (inr (omega arith)))

pub returns : goal.returns
returns c = stored_all c.loop-k.invariant (omega arith) c.loop-k-test.false
