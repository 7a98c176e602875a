use mathlib.Core.Path.{◌≡◌}
use Prim.Native.Nat.{◌≤◌}
use Rattle.numbering.specs.Numbers.{parent_before}
use Rattle.numbering.proofs.back.parent_before.Given as goal

abbrev pub invariant-loop-k : goal.invariant-loop-k
invariant-loop-k l = (parent_before l.w l.depth l.k ≡ parent_before l.w l.depth l.i) × (l.k ≤ l.i)
