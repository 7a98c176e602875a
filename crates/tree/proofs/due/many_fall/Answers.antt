use Rattle.tree.proofs.DueLaws.{gather_turn}
use Rattle.tree.proofs.due.many_fall.Goals as goal

pub number-code-requires : goal.number-code-requires
number-code-requires c = search gather_turn

pub behind-at-requires : goal.behind-at-requires
behind-at-requires c = search gather_turn

pub loop-at-smaller : goal.loop-at-smaller
loop-at-smaller c = search gather_turn
