use Rattle.numbering.proofs.ValueLaws.{value_ways}
use Rattle.numbering.proofs.values.value_length.Goals as goal

pub returns-then-w-i-eq0 : goal.returns-then-w-i-eq0
returns-then-w-i-eq0 c = search value_ways

pub returns-else-w-i-eq0 : goal.returns-else-w-i-eq0
returns-else-w-i-eq0 c = search value_ways
