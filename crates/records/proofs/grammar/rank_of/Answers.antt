use Rattle.records.proofs.GrammarLaws.{rank_ways}
use Rattle.records.proofs.grammar.rank_of.Goals as goal

pub returns-in-Info : goal.returns-in-Info
returns-in-Info c = search rank_ways

pub returns-in-Point : goal.returns-in-Point
returns-in-Point c = search rank_ways

pub returns-in-Multi : goal.returns-in-Multi
returns-in-Multi c = search rank_ways

pub returns-in-Feature : goal.returns-in-Feature
returns-in-Feature c = search rank_ways
