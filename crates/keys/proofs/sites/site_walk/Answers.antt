use Rattle.keys.proofs.SiteLaws.{site_ways}
use Rattle.keys.proofs.sites.site_walk.Goals as goal

pub site_ordered-requires : goal.site_ordered-requires
site_ordered-requires c = search site_ways

pub site_near-requires : goal.site_near-requires
site_near-requires c = search site_ways

pub returns-in-Some : goal.returns-in-Some
returns-in-Some c = search site_ways
