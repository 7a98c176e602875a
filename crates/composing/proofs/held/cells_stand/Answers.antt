use Rattle.composing.proofs.HeldLaws.{cells_turn}
use borrow.Author.Rules.{rules}
use native.Mathlib.Omega.{arith}
use Rattle.composing.proofs.held.cells_stand.Goals as goal

pub loop-i-init : goal.loop-i-init
loop-i-init c = search cells_turn

pub cell_key-key-requires : goal.cell_key-key-requires
cell_key-key-requires c = (omega arith, search rules)

pub returns-then-not-stands : goal.returns-then-not-stands
returns-then-not-stands c = search cells_turn

pub loop-i-preserved : goal.loop-i-preserved
loop-i-preserved c = search cells_turn

pub returns : goal.returns
returns c = search cells_turn
