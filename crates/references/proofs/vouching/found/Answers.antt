use Rattle.references.proofs.VouchLaws.{found_ways}
use borrow.Author.Rules.{rules}
use Rattle.references.proofs.vouching.found.Goals as goal

pub returns-else-vouched-2 : goal.returns-else-vouched-2
returns-else-vouched-2 c = (search found_ways, search rules)
