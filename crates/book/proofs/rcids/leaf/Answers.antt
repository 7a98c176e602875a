use Rattle.book.proofs.RcidLaws.{leaf_ways}
use borrow.Author.Rules.{rules}
use native.Mathlib.Omega.{arith}
use Rattle.book.proofs.rcids.leaf.Goals as goal

pub returns-then-l-b : goal.returns-then-l-b
returns-then-l-b c = (search leaf_ways, search rules, omega arith)

pub returns : goal.returns
returns c = (search leaf_ways, search rules, omega arith)
