use Rattle.book.proofs.FirstLaws.{foreseen_of}
use native.Mathlib.Omega.{arith}
use Rattle.book.proofs.first.foresee.Goals as goal

pub returns : goal.returns
returns c = search (foreseen_of, arith)
