use Rattle.book.proofs.RcidLaws.{bough_ways}
use native.Mathlib.Omega.{arith}
use Rattle.book.proofs.rcids.bough.Goals as goal

pub returns : goal.returns
returns c = (search bough_ways, omega arith)
