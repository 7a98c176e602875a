use Rattle.composing.proofs.HeldLaws.{cell_ways}
use Rattle.composing.proofs.held.cell_key.Goals as goal

pub returns-then-c-i-eq0 : goal.returns-then-c-i-eq0
returns-then-c-i-eq0 c = search cell_ways

pub returns-else-c-i-eq0 : goal.returns-else-c-i-eq0
returns-else-c-i-eq0 c = search cell_ways
