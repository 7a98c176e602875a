-- `find` meets its contract. Assumes nothing.
use Rattle.cells.proofs.FindLaws.{search_turn}
use native.Mathlib.Omega.{arith}
use Rattle.cells.proofs.search.find.Goals as goal

pub loop-i-init : goal.loop-i-init
loop-i-init c = search search_turn

pub has_key-requires : goal.has_key-requires
has_key-requires c = (omega arith, search search_turn, omega arith)

pub returns-then-has_key : goal.returns-then-has_key
returns-then-has_key c = search search_turn

pub loop-i-preserved : goal.loop-i-preserved
loop-i-preserved c = search search_turn

pub returns : goal.returns
returns c = search search_turn
