use Rattle.contents.proofs.EarlierLaws.{seen_turn}
use Rattle.contents.proofs.earlier.fields_have.Goals as goal

pub slice_bounds-field_has-count : goal.slice_bounds-field_has-count
slice_bounds-field_has-count c = search seen_turn

pub slice_bounds-field_has-start : goal.slice_bounds-field_has-start
slice_bounds-field_has-start c = search seen_turn

pub slice_bounds-field_has-end : goal.slice_bounds-field_has-end
slice_bounds-field_has-end c = search seen_turn

pub field_has-requires : goal.field_has-requires
field_has-requires c = search seen_turn

pub returns-then-field_has : goal.returns-then-field_has
returns-then-field_has c = search seen_turn

pub loop-preserved : goal.loop-preserved
loop-preserved c = search seen_turn

pub returns-in_default : goal.returns-in_default
returns-in_default c = search seen_turn

pub returns : goal.returns
returns c = search seen_turn
