-- `bytes_up` meets its contract: the last n - k of the n bytes are stored, and those that are read next lie below them. Assumes nothing.
use Prim.Native.Nat.{◌-◌}
use mathlib.Core.Logic.{inl}
use Rattle.memory.proofs.PutLaws.{length_part, Outside}
use Rattle.memory.proofs.LoopLaws.{stored_none, stored_down, stored_all, stored_unread}
use native.Mathlib.Omega.{arith}
use Rattle.memory.proofs.moving.bytes_up.Goals as goal

pub loop-k-init : goal.loop-k-init
loop-k-init c = stored_none _ _ _ _ _ (length_part _ _ _ (omega arith)) (omega arith)

pub loop-k-preserved : goal.loop-k-preserved
unfolding Outside
loop-k-preserved c = let l = c.loop-k in stored_down l.invariant c.loop-k-test.true (stored_unread _ l.invariant (l.k - 1) (omega arith) (inl (omega arith)))

pub returns : goal.returns
returns c = stored_all c.loop-k.invariant c.loop-k-test.false (omega arith)
