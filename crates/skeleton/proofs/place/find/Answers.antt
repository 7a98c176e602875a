-- `place::find` meets its contract. The invariant: what is found from here on is what is asked for. Assumes nothing.
use mathlib.Core.Path.{refl}
use Rattle.skeleton.proofs.FindLaws.{find_turn}
use Rattle.skeleton.proofs.place.find.Goals as goal

pub loop-field-init : goal.loop-field-init
loop-field-init c = refl

pub returns-then-field-wanted : goal.returns-then-field-wanted
returns-then-field-wanted c = search find_turn

pub loop-field-smaller : goal.loop-field-smaller
loop-field-smaller c = search find_turn

pub loop-field-preserved : goal.loop-field-preserved
loop-field-preserved c = search find_turn

pub returns : goal.returns
returns c = search find_turn
