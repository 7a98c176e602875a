use Rattle.keys.proofs.PresentLaws.{has_ways}
use Rattle.keys.proofs.present.has.Goals as goal

pub returns : goal.returns
returns c = search has_ways

pub site_ordered-requires : goal.site_ordered-requires
site_ordered-requires c = search has_ways

pub returns-then-ordered : goal.returns-then-ordered
returns-then-ordered c = search has_ways

pub site_near-requires : goal.site_near-requires
site_near-requires c = search has_ways

pub returns-then-is_some : goal.returns-then-is_some
returns-then-is_some c = search has_ways

pub returns-else-is_some : goal.returns-else-is_some
returns-else-is_some c = search has_ways
