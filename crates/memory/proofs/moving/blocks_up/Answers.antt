-- `blocks_up` meets its contract: the last n - k of the n bytes are stored, and those that are read next lie below them. Assumes nothing.
use Prim.Native.Nat.{◌-◌}
use mathlib.Core.Logic.{inl}
use Rattle.memory.proofs.PutLaws.{length_part, Outside}
use Rattle.memory.proofs.LoopLaws.{stored_none, stored_down_run, stored_unread_run, stored_moved}
use native.Mathlib.Omega.{arith}
use Rattle.memory.proofs.moving.blocks_up.Goals as goal

pub loop-k-init : goal.loop-k-init
loop-k-init c = stored_none _ _ _ _ _ (length_part _ _ _ (omega arith)) (omega arith)

pub loop-k-preserved : goal.loop-k-preserved
unfolding Outside
loop-k-preserved c = let a = c.args in
    let l = c.loop-k in
    let read = stored_unread_run a.from l.invariant (l.k - 64) 64 (omega arith) (λ t h. inl (omega arith)) in
    rw c.move_block.ensures (stored_down_run l.invariant 64 (omega arith) read)

pub shape_of-w : goal.shape_of-w
shape_of-w c = c.loop-k.invariant.long

pub returns : goal.returns
returns c = (omega arith, stored_moved _ c.loop-k.invariant)
