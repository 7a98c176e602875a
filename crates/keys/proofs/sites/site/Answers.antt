use Rattle.keys.proofs.SiteLaws.{flag_site}
use Rattle.keys.proofs.sites.site.Goals as goal

pub returns : goal.returns
returns c = search flag_site
