-- `follow` meets its contract. Assumes nothing.
use Rattle.history.proofs.CourseLaws.{Onto}
use mathlib.Core.Path.{◌≡◌}
use lib.ListN.{length}
use Prim.Native.Nat.{◌-◌}
use Rattle.history.proofs.playing.follow.Given as goal

abbrev pub invariant-loop-q : goal.invariant-loop-q
invariant-loop-q l = Onto l.d l.u l.us l.from l.key l.initial.work l.initial.v l.q l.work l.v × (length l.work ≡ length l.initial.work)

abbrev pub decreases-loop-q : goal.decreases-loop-q
decreases-loop-q l = length l.u - l.q
