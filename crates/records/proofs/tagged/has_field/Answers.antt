use Rattle.records.proofs.TaggedLaws.{has_turn}
use Rattle.records.proofs.tagged.has_field.Goals as goal

pub bounds-r-q : goal.bounds-r-q
bounds-r-q c = search has_turn

pub tag_at-requires : goal.tag_at-requires
tag_at-requires c = search has_turn

pub returns-then-tag_at-wanted : goal.returns-then-tag_at-wanted
returns-then-tag_at-wanted c = search has_turn

pub overflow_add-q-in-loop-q-2 : goal.overflow_add-q-in-loop-q-2
overflow_add-q-in-loop-q-2 c = search has_turn

pub loop-q-smaller : goal.loop-q-smaller
loop-q-smaller c = search has_turn

pub loop-q-preserved : goal.loop-q-preserved
loop-q-preserved c = (search has_turn, search has_turn)

pub returns : goal.returns
returns c = search has_turn
