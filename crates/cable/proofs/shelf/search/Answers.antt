-- `search` meets its contract. Assumes nothing.
use Rattle.cable.proofs.ShelfLaws.{search_turn}
use Rattle.cable.proofs.shelf.search.Goals as goal

pub loop-p-init : goal.loop-p-init
loop-p-init c = search search_turn

pub slice_bounds-rest-count : goal.slice_bounds-rest-count
slice_bounds-rest-count c = search search_turn

pub slice_bounds-rest-start : goal.slice_bounds-rest-start
slice_bounds-rest-start c = search search_turn

pub slice_bounds-rest-end : goal.slice_bounds-rest-end
slice_bounds-rest-end c = search search_turn

pub returns-then-not-fronts_file : goal.returns-then-not-fronts_file
returns-then-not-fronts_file c = search search_turn

pub le32-n-requires : goal.le32-n-requires
le32-n-requires c = search search_turn

pub overflow_cast-n : goal.overflow_cast-n
overflow_cast-n c = search search_turn

pub slice_bounds-follows-count : goal.slice_bounds-follows-count
slice_bounds-follows-count c = search search_turn

pub slice_bounds-follows-start : goal.slice_bounds-follows-start
slice_bounds-follows-start c = search search_turn

pub slice_bounds-follows-end : goal.slice_bounds-follows-end
slice_bounds-follows-end c = search search_turn

pub returns-then-follows : goal.returns-then-follows
returns-then-follows c = search search_turn

pub overflow_add-p : goal.overflow_add-p
overflow_add-p c = search search_turn

pub loop-p-smaller : goal.loop-p-smaller
loop-p-smaller c = search search_turn

pub loop-p-preserved : goal.loop-p-preserved
loop-p-preserved c = search search_turn

pub returns : goal.returns
returns c = search search_turn
