use Rattle.opening.proofs.GeneralLaws.{general_ways}
use Rattle.opening.proofs.general.check_general.Goals as goal

pub returns-then-field-ne-DSID : goal.returns-then-field-ne-DSID
returns-then-field-ne-DSID c = search general_ways

pub unread_order-requires : goal.unread_order-requires
unread_order-requires c = search general_ways

pub returns-in-Err : goal.returns-in-Err
returns-in-Err c = search general_ways

pub slice_bounds-has_format-count : goal.slice_bounds-has_format-count
slice_bounds-has_format-count c = search general_ways

pub slice_bounds-has_format-start : goal.slice_bounds-has_format-start
slice_bounds-has_format-start c = search general_ways

pub slice_bounds-has_format-end : goal.slice_bounds-has_format-end
slice_bounds-has_format-end c = search general_ways

pub returns : goal.returns
returns c = search general_ways

pub returns-in_default : goal.returns-in_default
returns-in_default c = search general_ways
