use Rattle.contents.proofs.SinceLaws.{again_ways}
use Rattle.contents.proofs.trees.trees_again.Goals as goal

pub returns-then-broken : goal.returns-then-broken
returns-then-broken c = search again_ways

pub returns : goal.returns
returns c = search again_ways
