use Rattle.book.proofs.RcidLaws.{mesh_ways}
use native.Mathlib.Omega.{arith}
use Rattle.book.proofs.rcids.base.Goals as goal

pub returns-then-n-lt32768 : goal.returns-then-n-lt32768
returns-then-n-lt32768 c = (search mesh_ways, omega arith, omega arith)

pub returns : goal.returns
returns c = (search mesh_ways, omega arith, omega arith)
