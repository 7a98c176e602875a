use Rattle.records.proofs.GrammarLaws.{ruin_ways}
use Rattle.records.proofs.grammar.ruin_byte.Goals as goal

pub returns-then-at-end : goal.returns-then-at-end
returns-then-at-end c = search ruin_ways

pub returns-else-at-end : goal.returns-else-at-end
returns-else-at-end c = search ruin_ways
