-- `put_three` meets its contract. Assumes nothing.
use Rattle.console.proofs.NumberedLaws.{three_left, three_put}
use lib.ListN.{length-set}
use native.Mathlib.Omega.{arith}
use Rattle.console.proofs.put_three.Goals as goal

pub returns-then-out-lt3 : goal.returns-then-out-lt3
returns-then-out-lt3 c = search three_left

pub bounds-out-1 : goal.bounds-out-1
bounds-out-1 c = simp length-set (omega arith)

pub returns : goal.returns
returns c = search three_put
