use Rattle.edits.specs.Walks.{Going}
use Rattle.edits.proofs.walking.walk.Given as goal

abbrev pub invariant-loop-at : goal.invariant-loop-at
invariant-loop-at l = Going l.w l.n l.depth l.code l.start l.k l.at l.count l.mark l.nth
