use Rattle.keys.proofs.KeyLaws.{rank_ways}
use Rattle.keys.proofs.look.rank.Goals as goal

pub returns-in-150 : goal.returns-in-150
returns-in-150 c = search rank_ways

pub returns-in-110 : goal.returns-in-110
returns-in-110 c = search rank_ways

pub returns-in-115 : goal.returns-in-115
returns-in-115 c = search rank_ways

pub returns-in-100 : goal.returns-in-100
returns-in-100 c = search rank_ways

pub returns-in_default : goal.returns-in_default
returns-in_default c = search rank_ways
