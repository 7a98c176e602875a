use Prim.Native.Nat.{◌≤◌}
use mathlib.Core.Path.{◌≡◌}
use lib.ListN.{length}
use Rattle.book.specs.First.{Going}
use Rattle.book.specs.Rcids.{Unmet}
use Rattle.book.proofs.first.gather.Given as goal

abbrev pub invariant-loop-y : goal.invariant-loop-y
invariant-loop-y l = (length l.b ≡ length l.initial.b) × (length l.t ≡ length l.initial.t) × (l.x ≤ l.y) × (l.y ≤ l.e) × Going l.f l.start l.m l.q l.y × Unmet l.t
