use Rattle.console.proofs.NumberedLaws.{numbers_ways}
use lib.ListN.{length-set}
use native.Mathlib.Omega.{arith}
use Rattle.console.proofs.put_answer.Goals as goal

pub returns-then-answer-lt5 : goal.returns-then-answer-lt5
returns-then-answer-lt5 c = search numbers_ways

pub bounds-answer-1 : goal.bounds-answer-1
bounds-answer-1 c = simp length-set (omega arith)

pub bounds-answer-2 : goal.bounds-answer-2
bounds-answer-2 c = simp length-set (omega arith)

pub bounds-answer-3 : goal.bounds-answer-3
bounds-answer-3 c = simp length-set (omega arith)

pub returns : goal.returns
returns c = search numbers_ways
