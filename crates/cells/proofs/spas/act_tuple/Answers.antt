-- `act_tuple` meets its contract. Assumes nothing.
use Rattle.cells.proofs.SpasLaws.{tuple_ways}
use native.Mathlib.Omega.{arith}
use Rattle.cells.proofs.spas.act_tuple.Goals as goal

pub join_cells-requires : goal.join_cells-requires
join_cells-requires c = (omega arith, omega arith, omega arith, omega arith, omega arith, search tuple_ways)

pub returns-then-u-p-eq1 : goal.returns-then-u-p-eq1
returns-then-u-p-eq1 c = search tuple_ways

pub leave_cells-requires : goal.leave_cells-requires
leave_cells-requires c = (omega arith, omega arith, omega arith, search tuple_ways)

pub returns : goal.returns
returns c = search tuple_ways
