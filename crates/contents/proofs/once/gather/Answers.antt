use Rattle.contents.proofs.ApartLaws.{gather_turn}
use borrow.Author.Rules.{rules}
use Rattle.contents.proofs.once.gather.Goals as goal

pub loop-k-preserved : goal.loop-k-preserved
loop-k-preserved c = (search rules, search gather_turn, search gather_turn)
