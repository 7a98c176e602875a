use Rattle.keys.proofs.SiteLaws.{near_site}
use Rattle.keys.proofs.sites.site_near.Goals as goal

pub look_at-requires : goal.look_at-requires
look_at-requires c = search near_site

pub returns-in_err-look : goal.returns-in_err-look
returns-in_err-look c = search near_site

pub returns-then-look-key : goal.returns-then-look-key
returns-then-look-key c = search near_site

pub returns-then-key-look : goal.returns-then-key-look
returns-then-key-look c = search near_site

pub overflow_add-p : goal.overflow_add-p
overflow_add-p c = search near_site

pub loop-preserved : goal.loop-preserved
loop-preserved c = search near_site

pub returns : goal.returns
returns c = search near_site
