use Rattle.contents.proofs.SinceLaws.{again_ways}
use Rattle.contents.proofs.counts.counts_again.Goals as goal

pub returns-then-controlled : goal.returns-then-controlled
returns-then-controlled c = search again_ways

pub returns : goal.returns
returns c = search again_ways
