use Rattle.skeleton.proofs.DirectoryLaws.{entry_ways, entry_zeros_fits}
use native.Mathlib.Omega.{arith}
use borrow.Author.Rules.{rules}
use Rattle.skeleton.proofs.directory.entry_at.Goals as goal

pub returns-then-r-p : goal.returns-then-r-p
returns-then-r-p c = search entry_ways

pub returns-then-r-p-eq30 : goal.returns-then-r-p-eq30
returns-then-r-p-eq30 c = search entry_ways

pub returns-then-r-p-2 : goal.returns-then-r-p-2
returns-then-r-p-2 c = search entry_ways

pub entry_in-requires : goal.entry_in-requires
entry_in-requires c = (omega arith, omega arith, omega arith, search rules, entry_zeros_fits _ _ _ _ c.if-r-p.false c.if-r-p-eq30.false c.if-r-p-2.false _ c.is_small.ensures c.if-is_small.true)

pub returns-then-is_small : goal.returns-then-is_small
returns-then-is_small c = search entry_ways

pub returns : goal.returns
returns c = search entry_ways
