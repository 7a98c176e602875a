use Rattle.contents.proofs.TreeLaws.{broken_ways}
use Rattle.contents.proofs.trees.tree_broken.Goals as goal

pub returns-else-before : goal.returns-else-before
returns-else-before c = search broken_ways
