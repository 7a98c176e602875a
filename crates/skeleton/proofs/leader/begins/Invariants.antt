-- `leader::begins` meets its contract. The invariant: the answer from here on is the answer asked for. Assumes nothing.
use Prim.Native.Nat.{◌-◌, ◌≤◌}
use mathlib.Core.Path.{◌≡◌}
use lib.ListN.{length}
use Rattle.skeleton.specs.Leader.{shaped, shaped_from}
use Rattle.skeleton.proofs.leader.begins.Given as goal

abbrev pub invariant-loop-i : goal.invariant-loop-i
invariant-loop-i l = (l.i ≤ length l.t) × (shaped_from l.t l.s l.i ≡ shaped l.t l.s)

abbrev pub decreases-loop-i : goal.decreases-loop-i
decreases-loop-i l = length l.t - l.i
