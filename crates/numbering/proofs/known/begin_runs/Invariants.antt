use Rattle.numbering.proofs.KnownLaws.{RunsAt}
use Rattle.numbering.proofs.known.begin_runs.Given as goal

abbrev pub invariant-loop-d : goal.invariant-loop-d
invariant-loop-d l = RunsAt l.initial.known l.i l.deeper l.known l.d
