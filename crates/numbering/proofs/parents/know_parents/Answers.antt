use mathlib.Core.Path.{refl}
use Rattle.numbering.proofs.ParentLaws.{parents_start, parents_all}
use borrow.Author.Rules.{rules}
use native.Mathlib.Omega.{arith}
use Rattle.numbering.proofs.parents.know_parents.Goals as goal

pub loop-i-init : goal.loop-i-init
loop-i-init c = (refl, parents_start _ _)

pub next_parent-requires : goal.next_parent-requires
next_parent-requires c = (omega arith, omega arith, c.loop-i.invariant.1)

pub loop-i-preserved : goal.loop-i-preserved
loop-i-preserved c = (search rules, c.next_parent.ensures.2)

pub returns : goal.returns
returns c = parents_all _ _ _ _ (omega arith) c.loop-i-test.false c.loop-i.invariant.1
