use Rattle.edits.proofs.TurnLaws.{ActsAt}
use Rattle.std.proofs.Common.{◌-◌, ◌+◌, ◌*◌}
use Rattle.edits.proofs.acting.+act_acts.Given as goal

abbrev pub decreases-act : goal.decreases-act
decreases-act l = 2 * (l.end - l.at)

abbrev pub decreases-acts : goal.decreases-acts
decreases-acts l = 2 * (l.end - l.at) + 1

abbrev pub invariant-acts-loop-a : goal.invariant-acts-loop-a
invariant-acts-loop-a l = ActsAt l.u l.end l.at l.parent l.place l.initial.w l.n l.start l.depth l.barren l.w l.a l.q l.m

abbrev pub decreases-acts-loop-a : goal.decreases-acts-loop-a
decreases-acts-loop-a l = l.end - l.a
