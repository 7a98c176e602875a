-- `hand_over` meets its contract. Assumes nothing.
use Rattle.display.proofs.PoolLaws.{held_inside, handed_front, tested_front}
use Rattle.display.proofs.hand_over.Goals as goal

pub slice_bounds-update_tested-end : goal.slice_bounds-update_tested-end
slice_bounds-update_tested-end c = held_inside _ _ _ c.min-n.ensures

pub update_tested-requires : goal.update_tested-requires
update_tested-requires c = tested_front _ _ _ _ c.min-n.ensures c.requires

pub returns : goal.returns
returns c = handed_front _ _ _ _ _ _ _ _ _ c.min-n.ensures c.update_tested.ensures
