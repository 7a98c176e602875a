use Prim.Native.Nat.{◌-◌, ◌*◌, ◌+◌}
use lib.ListN.{length}
use Rattle.sorting.proofs.IndexLaws.{indexed_none, indexed_by}
use borrow.Author.Rules.{rules}
use native.Mathlib.Omega.{arith}
use Rattle.sorting.proofs.index.lay.Goals as goal

pub returns-then-out-room : goal.returns-then-out-room
returns-then-out-room c = (search rules, indexed_none _ _ c.args.out.now)

pub returns-then-build : goal.returns-then-build
returns-then-build c = (search rules, indexed_by _ _ _ c.args.out.now (length c.args.out.now - (8 * c.count.result + 8)) (c.build.ensures (search rules)) (omega arith))

pub returns : goal.returns
returns c = (search rules, search (indexed_none))
