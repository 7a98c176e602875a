use mathlib.Core.Path.{◌≡◌}
use Prim.Native.Nat.{◌+◌, ◌≤◌}
use Rattle.numbering.specs.Numbers.{twins_before}
use Rattle.numbering.proofs.back.twins_before.Given as goal

abbrev pub invariant-loop-k : goal.invariant-loop-k
invariant-loop-k l = (l.t + twins_before l.w l.depth l.code l.k ≡ twins_before l.w l.depth l.code l.i) × (l.t + l.k ≤ l.i)
