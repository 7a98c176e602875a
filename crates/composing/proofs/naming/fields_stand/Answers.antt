use Rattle.composing.proofs.NamingLaws.{fields_turn}
use borrow.Author.Rules.{rules}
use Rattle.composing.proofs.naming.fields_stand.Goals as goal

pub loop-field-init : goal.loop-field-init
loop-field-init c = (search rules, search fields_turn)

pub slice_bounds-b-count : goal.slice_bounds-b-count
slice_bounds-b-count c = search fields_turn

pub slice_bounds-b-start : goal.slice_bounds-b-start
slice_bounds-b-start c = search fields_turn

pub slice_bounds-b-end : goal.slice_bounds-b-end
slice_bounds-b-end c = search fields_turn

pub field_stands-requires : goal.field_stands-requires
field_stands-requires c = (search rules, search rules, search fields_turn, search fields_turn)

pub returns-then-not-field_stands : goal.returns-then-not-field_stands
returns-then-not-field_stands c = search fields_turn

pub loop-field-smaller : goal.loop-field-smaller
loop-field-smaller c = search fields_turn

pub loop-field-preserved : goal.loop-field-preserved
loop-field-preserved c = (search fields_turn, search fields_turn)

pub returns : goal.returns
returns c = search fields_turn
