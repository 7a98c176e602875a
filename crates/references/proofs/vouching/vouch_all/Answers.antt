use mathlib.Core.Path.{refl}
use Rattle.references.proofs.VouchLaws.{all_start, all_turn}
use borrow.Author.Rules.{rules}
use Rattle.references.proofs.vouching.vouch_all.Goals as goal

pub loop-look-init : goal.loop-look-init
loop-look-init c = (refl, all_start _ _ (search rules), search rules)

pub look_at-requires : goal.look_at-requires
look_at-requires c = search all_turn

pub enter-requires : goal.enter-requires
enter-requires c = search all_turn

pub overflow_add-p : goal.overflow_add-p
overflow_add-p c = search all_turn

pub loop-look-smaller : goal.loop-look-smaller
loop-look-smaller c = search all_turn

pub loop-look-preserved : goal.loop-look-preserved
loop-look-preserved c = (search rules, search all_turn, search all_turn)
