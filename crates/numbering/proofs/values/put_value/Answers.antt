use Rattle.numbering.proofs.ValueLaws.{value_ways}
use Rattle.numbering.proofs.values.put_value.Goals as goal

pub put_text-requires : goal.put_text-requires
put_text-requires c = search value_ways

pub returns-then-w-i-eq0 : goal.returns-then-w-i-eq0
returns-then-w-i-eq0 c = search value_ways

pub put_text-requires-else-w-i-eq0 : goal.put_text-requires-else-w-i-eq0
put_text-requires-else-w-i-eq0 c = search value_ways

pub returns-else-w-i-eq0 : goal.returns-else-w-i-eq0
returns-else-w-i-eq0 c = search value_ways
