-- `load_spas` meets its contract. Assumes nothing.
use Rattle.cells.proofs.LoadLaws.{load_turns}
use Rattle.cells.proofs.spas.load_spas.Goals as goal

pub loop-p-init : goal.loop-p-init
loop-p-init c = search load_turns

pub overflow_add-p : goal.overflow_add-p
overflow_add-p c = search load_turns

pub add-m-requires : goal.add-m-requires
add-m-requires c = (search load_turns, search load_turns, search load_turns, search load_turns)

pub overflow_add-p-in-loop-p : goal.overflow_add-p-in-loop-p
overflow_add-p-in-loop-p c = search load_turns

pub loop-p-smaller : goal.loop-p-smaller
loop-p-smaller c = search load_turns

pub loop-p-preserved : goal.loop-p-preserved
loop-p-preserved c = search load_turns

pub shape_of-c : goal.shape_of-c
shape_of-c c = search load_turns

pub returns : goal.returns
returns c = (search load_turns, search load_turns)
