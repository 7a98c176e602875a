use Rattle.references.proofs.VouchLaws.{collect_turn, sift_ways}
use borrow.Author.Rules.{rules}
use native.Mathlib.Omega.{arith}
use Rattle.references.proofs.collecting.collect.Goals as goal

pub returns-then-f-p : goal.returns-then-f-p
returns-then-f-p c = search sift_ways

pub loop-n-init : goal.loop-n-init
loop-n-init c = (search rules, search rules, omega arith, omega arith, search sift_ways)

pub overflow_add-to : goal.overflow_add-to
overflow_add-to c = search collect_turn

pub slice_bounds-add_record-count : goal.slice_bounds-add_record-count
slice_bounds-add_record-count c = search collect_turn

pub slice_bounds-add_record-start : goal.slice_bounds-add_record-start
slice_bounds-add_record-start c = search collect_turn

pub slice_bounds-add_record-end : goal.slice_bounds-add_record-end
slice_bounds-add_record-end c = search collect_turn

pub add_record-n-requires : goal.add_record-n-requires
add_record-n-requires c = (search collect_turn, search rules, search rules)

pub loop-n-smaller : goal.loop-n-smaller
loop-n-smaller c = search collect_turn

pub loop-n-preserved : goal.loop-n-preserved
loop-n-preserved c = (search rules, search rules, search collect_turn, search rules, search rules)
