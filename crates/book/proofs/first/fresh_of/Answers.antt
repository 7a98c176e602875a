use Rattle.book.proofs.FirstLaws.{repeat_turn}
use Rattle.book.proofs.first.fresh_of.Goals as goal

pub mark-requires : goal.mark-requires
mark-requires c = search repeat_turn
