use Rattle.tree.proofs.TurnLaws.{Going}
use Rattle.std.proofs.Common.{length, ◌-◌, ◌+◌, ◌*◌}
use Rattle.tree.proofs.walk.+entry_run.Given as goal

abbrev pub decreases-entry : goal.decreases-entry
decreases-entry l = 2 * (length l.b.now - l.at)

abbrev pub decreases-run : goal.decreases-run
decreases-run l = 2 * (length l.b.now - l.at) + 1

abbrev pub invariant-run-loop-a : goal.invariant-run-loop-a
invariant-run-loop-a l = Going l.b l.whole l.at l.parent l.place l.shut l.a l.q l.top l.many

abbrev pub decreases-run-loop-a : goal.decreases-run-loop-a
decreases-run-loop-a l = length l.b - l.a
