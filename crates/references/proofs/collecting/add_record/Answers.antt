use Rattle.references.proofs.VouchLaws.{place_turn}
use Rattle.references.proofs.collecting.add_record.Goals as goal

pub slice_bounds-add_field-count : goal.slice_bounds-add_field-count
slice_bounds-add_field-count c = search place_turn

pub slice_bounds-add_field-start : goal.slice_bounds-add_field-start
slice_bounds-add_field-start c = search place_turn

pub slice_bounds-add_field-end : goal.slice_bounds-add_field-end
slice_bounds-add_field-end c = search place_turn

pub loop-field-smaller : goal.loop-field-smaller
loop-field-smaller c = search place_turn
