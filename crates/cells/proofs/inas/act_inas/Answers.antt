-- `act_inas` meets its contract. Assumes nothing.
use Rattle.cells.proofs.InasLaws.{inas_ways}
use native.Mathlib.Omega.{arith}
use borrow.Author.Rules.{rules}
use Rattle.cells.proofs.inas.act_inas.Goals as goal

pub bounds-u-at : goal.bounds-u-at
bounds-u-at c = search inas_ways

pub join_inas-requires : goal.join_inas-requires
join_inas-requires c = (search inas_ways, omega arith, omega arith, omega arith, omega arith, search inas_ways, search rules, search rules)

pub returns-then-u-at-eq1 : goal.returns-then-u-at-eq1
returns-then-u-at-eq1 c = (search inas_ways, search rules)

pub leave_inas-requires : goal.leave_inas-requires
leave_inas-requires c = (search inas_ways, omega arith, omega arith, search inas_ways, search rules)

pub returns : goal.returns
returns c = (search inas_ways, search rules)
