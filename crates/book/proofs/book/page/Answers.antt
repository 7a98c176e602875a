use Rattle.book.proofs.BookLaws.{page_ways}
use borrow.Author.Rules.{rules}
use Rattle.book.proofs.book.page.Goals as goal

pub returns-then-o-b : goal.returns-then-o-b
returns-then-o-b c = (search page_ways, search rules)

pub returns : goal.returns
returns c = (search page_ways, search rules)
