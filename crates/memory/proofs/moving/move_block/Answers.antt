-- `move_block` meets its contract: the block that is held is the part that was read. Assumes nothing.
use mathlib.Core.Path.{refl, ap, ◌∙◌}
use mathlib.Core.List.{List}
use Prim.Native.Nat.{ℕ}
use Rattle.memory.specs.Put.{put}
use Rattle.memory.proofs.PutLaws.{part_over}
use native.Mathlib.Omega.{arith}
use Rattle.memory.proofs.moving.move_block.Goals as goal

pub returns : goal.returns
returns c = let a = c.args in
    c.copy-2.ensures ∙ ap (λ (l : List ℕ). put a.at l a.w.now) (rw c.copy.ensures (part_over a.from 64 a.w.now _ (omega arith) refl))
