use lib.ListN.{length-take}
use native.Mathlib.Omega.{arith}
use Rattle.deep.proofs.show.Goals as goal

pub slice_bounds-tree_of-end : goal.slice_bounds-tree_of-end
slice_bounds-tree_of-end c = simp length-take (omega arith)

pub slice_bounds-acts_of-end : goal.slice_bounds-acts_of-end
slice_bounds-acts_of-end c = simp length-take (omega arith)
