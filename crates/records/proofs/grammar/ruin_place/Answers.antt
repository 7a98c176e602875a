use Rattle.records.proofs.GrammarLaws.{ruin_places}
use Rattle.records.proofs.grammar.ruin_place.Goals as goal

pub returns-in-Info : goal.returns-in-Info
returns-in-Info c = search ruin_places

pub returns-in-Point : goal.returns-in-Point
returns-in-Point c = search ruin_places

pub returns-in-Multi : goal.returns-in-Multi
returns-in-Multi c = search ruin_places

pub returns-in-Feature : goal.returns-in-Feature
returns-in-Feature c = search ruin_places
