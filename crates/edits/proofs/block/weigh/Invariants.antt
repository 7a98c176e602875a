use mathlib.Core.Path.{◌≡◌}
use Prim.Native.Nat.{◌+◌, ◌-◌, ◌*◌, ◌≤◌}
use Rattle.edits.specs.Walks.{weight}
use Rattle.edits.proofs.block.weigh.Given as goal

abbrev pub invariant-loop-k : goal.invariant-loop-k
invariant-loop-k l = (l.sum + weight (64 - l.k) l.w (l.i + l.k) l.depth l.code ≡ weight 64 l.w l.i l.depth l.code) × (l.k ≤ 64) × (l.sum ≤ 65536 * l.k)

abbrev pub decreases-loop-k : goal.decreases-loop-k
decreases-loop-k l = 64 - l.k
