use Rattle.listing.proofs.TableLaws.{short_refused, short_count, short_some}
use borrow.Author.Rules.{rules}
use Rattle.listing.proofs.walk.put_short.Goals as goal

pub returns-then-a-eq0 : goal.returns-then-a-eq0
returns-then-a-eq0 c = short_refused _ c.requires _ c.read-a.ensures.answers (search rules) _ _ _ c.put_refusal.ensures

pub put_table-requires : goal.put_table-requires
put_table-requires c = (c.requires, short_count _ c.requires _ c.read-a.ensures.answers, short_some _ c.requires _ c.read-a.ensures.answers (search rules))
