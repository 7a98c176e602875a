use Rattle.tree.specs.Known.{Whole}
use Rattle.tree.specs.Source.{count}
use lib.ListN.{length}
use Prim.Native.Nat.{◌+◌, ◌-◌, ◌≤◌}
use mathlib.Core.Path.{◌≡◌}
use Rattle.tree.proofs.siblings.twins.Given as goal

abbrev pub invariant-loop-i : goal.invariant-loop-i
invariant-loop-i l = (l.n + count l.b l.i l.end l.code l.parent ≡ count l.b l.start l.end l.code l.parent) × (l.n ≤ l.i) × Whole l.b l.i

abbrev pub decreases-loop-i : goal.decreases-loop-i
decreases-loop-i l = length l.b - l.i
