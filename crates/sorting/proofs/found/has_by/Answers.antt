use Rattle.sorting.proofs.PlaceLaws.{next_says}
use Rattle.keys.specs.Places.{here}
use borrow.Author.Rules.{rules}
use Rattle.sorting.proofs.found.has_by.Goals as goal

pub next-requires : goal.next-requires
next-requires c = search (here, rules)

pub returns : goal.returns
returns c = search (next_says, rules)
