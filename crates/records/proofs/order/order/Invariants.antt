use mathlib.Core.Path.{◌≡◌}
use Prim.Native.Nat.{◌-◌, ◌≤◌}
use lib.ListN.{length}
use Rattle.skeleton.specs.RightFrom.{RightFrom}
use Rattle.records.specs.Order.{order_from}
use Rattle.records.proofs.order.order.Given as goal

abbrev pub invariant-loop-q : goal.invariant-loop-q
invariant-loop-q l = (2 ≤ l.i) × (l.i ≤ l.q) × (l.j ≤ length l.tags) × RightFrom l.r l.h l.q × (order_from l.r l.h l.tags l.s l.q l.j l.i ≡ order_from l.r l.h l.tags l.s l.p 0 2)

abbrev pub decreases-loop-q : goal.decreases-loop-q
decreases-loop-q l = length l.r - l.q
