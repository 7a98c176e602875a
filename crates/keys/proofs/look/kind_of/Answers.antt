use Rattle.keys.proofs.KeyLaws.{kind_ways}
use Rattle.keys.proofs.look.kind_of.Goals as goal

pub returns-in-1 : goal.returns-in-1
returns-in-1 c = search kind_ways

pub returns-in-2 : goal.returns-in-2
returns-in-2 c = search kind_ways

pub returns-in-3 : goal.returns-in-3
returns-in-3 c = search kind_ways

pub returns-in_default : goal.returns-in_default
returns-in_default c = search kind_ways
