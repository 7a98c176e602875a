use Rattle.listing.proofs.TableLaws.{listing_long, listing_short}
use borrow.Author.Rules.{rules}
use Rattle.listing.proofs.walk.put_listing.Goals as goal

pub returns-then-f-gt65536 : goal.returns-then-f-gt65536
returns-then-f-gt65536 c = listing_long _ _ _ _ (search rules) c.put_text.ensures

pub returns : goal.returns
returns c = listing_short _ _ _ _ (search rules) c.put_short.ensures
