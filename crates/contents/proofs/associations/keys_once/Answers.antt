use Rattle.contents.proofs.OnceLaws.{keys_start, informed_start, keys_turn}
use mathlib.Core.Path.{refl}
use borrow.Author.Rules.{rules}
use native.Mathlib.Omega.{arith}
use Rattle.contents.proofs.associations.keys_once.Goals as goal

pub loop-q-init : goal.loop-q-init
loop-q-init c = (omega arith, refl, search rules, search keys_start, search informed_start, search rules, refl)

pub bounds-r-q : goal.bounds-r-q
bounds-r-q c = search keys_turn

pub returns : goal.returns
returns c = search keys_turn

pub tag_at-tag-requires : goal.tag_at-tag-requires
tag_at-tag-requires c = search keys_turn

pub overflow_add-q-in-loop-q-2 : goal.overflow_add-q-in-loop-q-2
overflow_add-q-in-loop-q-2 c = search keys_turn

pub loop-q-smaller : goal.loop-q-smaller
loop-q-smaller c = search keys_turn

pub loop-q-preserved : goal.loop-q-preserved
loop-q-preserved c = (search keys_turn, search keys_turn, search keys_turn, search keys_turn, search keys_turn, search keys_turn, search keys_turn)

pub returns-in-Err : goal.returns-in-Err
returns-in-Err c = search keys_turn
