use Prim.Native.Nat.{◌-◌, ◌≤◌}
use mathlib.Core.Path.{◌≡◌}
use lib.ListN.{length}
use Rattle.book.specs.First.{Going, Fresh}
use Rattle.book.proofs.first.first_repeat.Given as goal

abbrev pub invariant-loop-x : goal.invariant-loop-x
invariant-loop-x l = (length l.b ≡ length l.initial.b) × (length l.t ≡ length l.initial.t) × (l.x ≤ l.m) × Going l.f l.start l.m l.p l.x × Fresh l.f l.start l.x

abbrev pub decreases-loop-x : goal.decreases-loop-x
decreases-loop-x l = l.m - l.x
