use Rattle.updater.proofs.FrontLaws.{general_ways}
use Rattle.updater.proofs.front.general.Goals as goal

pub returns-then-not-follows : goal.returns-then-not-follows
returns-then-not-follows c = search general_ways

pub returns-then-n-gt99999 : goal.returns-then-n-gt99999
returns-then-n-gt99999 c = search general_ways

pub returns : goal.returns
returns c = search general_ways
