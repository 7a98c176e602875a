use mathlib.Core.Path.{refl}
use Rattle.contents.proofs.StrayLaws.{level_end, level_turn}
use borrow.Author.Rules.{rules}
use native.Mathlib.Omega.{arith}
use Rattle.contents.proofs.strays.count_strays.Goals as goal

pub loop-q-init : goal.loop-q-init
loop-q-init c = (omega arith, refl, search rules, search level_turn, search rules, search level_turn)

pub bounds-r-q : goal.bounds-r-q
bounds-r-q c = search level_turn

pub returns : goal.returns
returns c = λ z. search (level_end, arith)

pub tag_at-tag-requires : goal.tag_at-tag-requires
tag_at-tag-requires c = search level_turn

pub overflow_add-q-in-loop-q-2 : goal.overflow_add-q-in-loop-q-2
overflow_add-q-in-loop-q-2 c = search level_turn

pub loop-q-smaller : goal.loop-q-smaller
loop-q-smaller c = search level_turn

pub loop-q-preserved : goal.loop-q-preserved
loop-q-preserved c = (search level_turn, search level_turn, search level_turn, search level_turn, search level_turn, search level_turn)
