use Rattle.numbering.proofs.ParentLaws.{DeepAt}
use Rattle.numbering.proofs.parents.deepen.Given as goal

abbrev pub invariant-loop-d : goal.invariant-loop-d
invariant-loop-d l = DeepAt l.initial.parents l.i l.shallow l.parents l.d
