use Rattle.composing.proofs.HeldLaws.{area_ways}
use borrow.Author.Rules.{rules}
use Rattle.composing.proofs.held.area_stands.Goals as goal

pub slice_bounds-cells_stand-end : goal.slice_bounds-cells_stand-end
slice_bounds-cells_stand-end c = search area_ways

pub cells_stand-requires : goal.cells_stand-requires
cells_stand-requires c = (search rules, search area_ways, search area_ways)
