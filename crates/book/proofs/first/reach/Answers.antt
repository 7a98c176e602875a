use Rattle.book.proofs.FirstLaws.{reach_start, reach_turn}
use borrow.Author.Rules.{rules}
use Rattle.book.proofs.first.reach.Goals as goal

pub loop-head-init : goal.loop-head-init
loop-head-init c = reach_start _ _ (search rules) (search rules)

pub record_at-requires : goal.record_at-requires
record_at-requires c = search reach_turn

pub overflow_add-e : goal.overflow_add-e
overflow_add-e c = search reach_turn

pub slice_bounds-first_key-count : goal.slice_bounds-first_key-count
slice_bounds-first_key-count c = search reach_turn

pub slice_bounds-first_key-start : goal.slice_bounds-first_key-start
slice_bounds-first_key-start c = search reach_turn

pub slice_bounds-first_key-end : goal.slice_bounds-first_key-end
slice_bounds-first_key-end c = search reach_turn

pub first_key-requires : goal.first_key-requires
first_key-requires c = search reach_turn

pub returns-then-first_key-eq0 : goal.returns-then-first_key-eq0
returns-then-first_key-eq0 c = search reach_turn

pub overflow_add-m : goal.overflow_add-m
overflow_add-m c = search reach_turn

pub loop-head-smaller : goal.loop-head-smaller
loop-head-smaller c = search reach_turn

pub loop-head-preserved : goal.loop-head-preserved
loop-head-preserved c = search reach_turn

pub returns : goal.returns
returns c = search reach_turn
