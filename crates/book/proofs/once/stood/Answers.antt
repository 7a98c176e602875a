use Rattle.book.proofs.FirstLaws.{stood_by_ways}
use Rattle.keys.proofs.OnceLaws.{stood_ways}
use Rattle.book.proofs.SparedLaws.{spared_ways}
use Rattle.book.proofs.once.stood.Goals as goal

pub returns-then-top-k : goal.returns-then-top-k
returns-then-top-k c = (search stood_ways, search stood_by_ways, search spared_ways)

pub returns-then-not-flag : goal.returns-then-not-flag
returns-then-not-flag c = (search stood_ways, search stood_by_ways, search spared_ways)
