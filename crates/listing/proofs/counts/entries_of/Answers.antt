use mathlib.Core.Path.{◌∙◌}
use Rattle.listing.proofs.CountLaws.{entries_counted}
use Rattle.listing.proofs.counts.entries_of.Goals as goal

pub returns : goal.returns
returns c = c.unwrap_or.ensures ∙ entries_counted _ _ c.tally_of.ensures
