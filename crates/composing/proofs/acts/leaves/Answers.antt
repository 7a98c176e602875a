use Rattle.composing.proofs.ActsLaws.{names_ways}
use Rattle.composing.proofs.acts.leaves.Goals as goal

pub returns-then-found-key : goal.returns-then-found-key
returns-then-found-key c = search names_ways

pub returns-else-found-key : goal.returns-else-found-key
returns-else-found-key c = search names_ways
