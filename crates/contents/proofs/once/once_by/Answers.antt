use mathlib.Core.Path.{refl}
use Rattle.contents.proofs.ApartLaws.{all_turn}
use Rattle.contents.proofs.once.once_by.Goals as goal

pub loop-x-init : goal.loop-x-init
loop-x-init c = (refl, refl, search all_turn, search all_turn)

pub returns-then-k-eq0 : goal.returns-then-k-eq0
returns-then-k-eq0 c = λ _. search all_turn
