use Rattle.writing.proofs.JoiningLaws.{on_ways}
use Rattle.writing.proofs.joining.goes_on.Goals as goal

pub returns-then-list-tag : goal.returns-then-list-tag
returns-then-list-tag c = search on_ways

pub returns-else-list-tag : goal.returns-else-list-tag
returns-else-list-tag c = search on_ways
