use Rattle.records.proofs.GrammarLaws.{kind_ways}
use Rattle.records.proofs.grammar.kind_of.Goals as goal

pub returns-in-1230129476 : goal.returns-in-1230129476
returns-in-1230129476 c = search kind_ways

pub returns-in-1347569988 : goal.returns-in-1347569988
returns-in-1347569988 c = search kind_ways

pub returns-in-1297238340 : goal.returns-in-1297238340
returns-in-1297238340 c = search kind_ways

pub returns-in-1179797828 : goal.returns-in-1179797828
returns-in-1179797828 c = search kind_ways

pub returns-in_default : goal.returns-in_default
returns-in_default c = search kind_ways
