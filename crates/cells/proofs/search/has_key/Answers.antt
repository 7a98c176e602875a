-- `has_key` meets its contract. Assumes nothing.
use Rattle.cells.proofs.FindLaws.{cell_ways}
use Rattle.cells.proofs.search.has_key.Goals as goal

pub same_key-requires : goal.same_key-requires
same_key-requires c = search cell_ways

pub returns-then-c-i-eq0 : goal.returns-then-c-i-eq0
returns-then-c-i-eq0 c = search cell_ways

pub same_key-requires-2 : goal.same_key-requires-2
same_key-requires-2 c = search cell_ways

pub returns : goal.returns
returns c = search cell_ways
