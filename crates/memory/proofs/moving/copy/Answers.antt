-- `copy` meets its contract: k of the n bytes are stored. Assumes nothing.
use mathlib.Core.Path.{sym}
use Rattle.memory.proofs.PutLaws.{length_part, get_d_part}
use Rattle.memory.proofs.LoopLaws.{stored_none, stored_up, stored_all}
use native.Mathlib.Omega.{arith}
use Rattle.memory.proofs.moving.copy.Goals as goal

pub loop-k-init : goal.loop-k-init
loop-k-init c = stored_none _ _ _ _ _ (length_part _ _ _ (omega arith)) (omega arith)

pub loop-k-preserved : goal.loop-k-preserved
loop-k-preserved c = let turn = c.loop-k-test.true in stored_up c.loop-k.invariant turn (sym (get_d_part _ _ _ _ turn))

pub returns : goal.returns
returns c = stored_all c.loop-k.invariant (omega arith) c.loop-k-test.false
