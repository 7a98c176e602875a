use Rattle.book.proofs.SparedLaws.{full_ones}
use Rattle.book.proofs.first.raise_all.Goals as goal

pub returns : goal.returns
returns c = full_ones _ _ (c.fill.ensures.after (λ y e. e))
