-- `run` meets its contract. The loop's invariant: from here the month comes to what it comes to from the start. Assumes nothing.
use Prim.Native.Nat.{◌-◌}
use mathlib.Core.Path.{◌≡◌}
use lib.ListN.{length as size}
use Rattle.month.specs.Month.{month_of}
use Rattle.month.proofs.TurnLaws.{Going}
use Rattle.month.proofs.turns.run.Given as goal

abbrev pub invariant-loop-at : goal.invariant-loop-at
invariant-loop-at l = Going (size l.initial.work) l.list (month_of l.list l.initial.first l.length l.initial.second l.initial.work) l.at l.m l.first l.second × (size l.first ≡ size l.initial.first) × (size l.second ≡ size l.initial.second) × (size l.work ≡ size l.initial.work)

abbrev pub decreases-loop-at : goal.decreases-loop-at
decreases-loop-at l = size l.list - l.at
