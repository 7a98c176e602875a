-- `directory::directory` meets its contract. The invariant: the walk from here on ends as the walk asked for. Assumes nothing.
use mathlib.Core.Path.{refl}
use Rattle.skeleton.proofs.DirectoryLaws.{directory_turn}
use native.Mathlib.Omega.{arith}
use Rattle.skeleton.proofs.directory.directory.Goals as goal

pub loop-pos-init : goal.loop-pos-init
loop-pos-init c = (omega arith, refl)

pub in_place-requires : goal.in_place-requires
in_place-requires c = search directory_turn

pub returns-then-not-in_place : goal.returns-then-not-in_place
returns-then-not-in_place c = search directory_turn

pub overflow_add-at : goal.overflow_add-at
overflow_add-at c = search directory_turn

pub loop-pos-smaller : goal.loop-pos-smaller
loop-pos-smaller c = search directory_turn

pub loop-pos-preserved : goal.loop-pos-preserved
loop-pos-preserved c = search directory_turn

pub at_end-requires : goal.at_end-requires
at_end-requires c = search directory_turn

pub returns-then-at_end : goal.returns-then-at_end
returns-then-at_end c = search directory_turn

pub returns-in-End : goal.returns-in-End
returns-in-End c = search directory_turn

pub returns-in-Bad : goal.returns-in-Bad
returns-in-Bad c = search directory_turn
