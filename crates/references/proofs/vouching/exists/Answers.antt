use Rattle.references.proofs.VouchLaws.{exists_ways}
use borrow.Author.Rules.{rules}
use Rattle.references.proofs.vouching.exists.Goals as goal

pub returns : goal.returns
returns c = (search exists_ways, search rules)

pub has-requires : goal.has-requires
has-requires c = search exists_ways

pub found-requires : goal.found-requires
found-requires c = (search exists_ways, search exists_ways)

pub returns-2 : goal.returns-2
returns-2 c = (search rules, search exists_ways)
