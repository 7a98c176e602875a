use Rattle.keys.proofs.OnceLaws.{renew_ways}
use Rattle.book.proofs.once.renew.Goals as goal

pub returns-then-old-new : goal.returns-then-old-new
returns-then-old-new c = search renew_ways

pub returns-else-old-new : goal.returns-else-old-new
returns-else-old-new c = search renew_ways
