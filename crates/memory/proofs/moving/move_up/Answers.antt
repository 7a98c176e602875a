-- `move_up` meets its contract: a part moved in two steps, the last of it first. Assumes nothing.
use mathlib.Core.Path.{◌∙◌}
use Rattle.memory.proofs.PutLaws.{move_last}
use native.Mathlib.Omega.{arith}
use Rattle.memory.proofs.moving.move_up.Goals as goal

pub returns : goal.returns
returns c = let a = c.args in
    let b = c.blocks_up-k in
    c.bytes_up.ensures ∙ rw b.ensures.1 (move_last a.at a.from b.result a.n a.w.now (omega arith) (omega arith) (omega arith))
