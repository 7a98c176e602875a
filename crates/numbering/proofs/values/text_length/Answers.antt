use Rattle.numbering.proofs.ValueLaws.{text_ways, text_there}
use native.Mathlib.Omega.{arith}
use Rattle.numbering.proofs.values.text_length.Goals as goal

pub returns-then-b-o : goal.returns-then-b-o
returns-then-b-o c = search text_ways

pub returns-else-b-o : goal.returns-else-b-o
returns-else-b-o c = text_there _ _ (omega arith) _ c.text_end.ensures
