use Rattle.listing.proofs.TableLaws.{list_none, list_all}
use borrow.Author.Rules.{rules}
use Rattle.listing.proofs.walk.list.Goals as goal

pub returns-then-out-n : goal.returns-then-out-n
returns-then-out-n c = list_none _ _ _ _ c.put_listing-n.ensures (search rules) _ c.zero.ensures

pub returns : goal.returns
returns c = list_all _ _ _ _ c.put_listing-n.ensures (search rules) _ c.zero_from.ensures
