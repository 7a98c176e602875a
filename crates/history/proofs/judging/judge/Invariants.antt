-- `judge` meets its contract. Assumes nothing.
use Prim.Native.Nat.{◌-◌}
use lib.ListN.{length}
use mathlib.Core.Path.{◌≡◌}
use Rattle.history.proofs.JudgingLaws.{Verdicts}
use Rattle.history.proofs.judging.judge.Given as goal

abbrev pub invariant-loop-q : goal.invariant-loop-q
invariant-loop-q l = Verdicts l.d l.ds l.u l.us l.q l.j l.s l.work × (length l.work ≡ length l.initial.work)

abbrev pub decreases-loop-q : goal.decreases-loop-q
decreases-loop-q l = length l.u - l.q
