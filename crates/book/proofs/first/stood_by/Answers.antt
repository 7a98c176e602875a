use Rattle.book.proofs.FirstLaws.{stood_by_ways}
use Rattle.book.proofs.SparedLaws.{spared_full, spared_ways}
use borrow.Author.Rules.{rules}
use Rattle.book.proofs.first.stood_by.Goals as goal

pub returns-then-n-lt7 : goal.returns-then-n-lt7
returns-then-n-lt7 c = (search rules, search stood_by_ways, search spared_ways)

pub returns-then-n-lt8 : goal.returns-then-n-lt8
returns-then-n-lt8 c = (search stood_by_ways, search stood_by_ways, spared_full _ _ c.raise_all.ensures (search rules))

pub returns : goal.returns
returns c = (search stood_by_ways, search stood_by_ways, search spared_ways)
