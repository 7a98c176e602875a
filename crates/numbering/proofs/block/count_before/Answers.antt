use mathlib.Core.Path.{refl}
use Rattle.numbering.proofs.ParentLaws.{parents_start}
use Rattle.numbering.proofs.BlockLaws.{counted_all}
use borrow.Author.Rules.{rules}
use native.Mathlib.Omega.{arith}
use Rattle.numbering.proofs.block.count_before.Goals as goal

pub loop-i-init : goal.loop-i-init
loop-i-init c = (refl, refl, c.requires.4, parents_start _ _)

pub next_parent-parent-requires : goal.next_parent-parent-requires
next_parent-parent-requires c = (omega arith, omega arith, c.loop-i.invariant.3)

pub join-requires : goal.join-requires
join-requires c = let n = c.next_parent-parent.ensures in
    record { i_in_bounds = (omega arith, omega arith, omega arith, omega arith); counted = (n.0, n.1, c.loop-i.invariant.2) }

pub loop-i-preserved : goal.loop-i-preserved
loop-i-preserved c = (search rules, search rules, c.join.ensures.tallied, c.next_parent-parent.ensures.2)

pub returns : goal.returns
returns c = let l = c.loop-i.invariant in
    counted_all _ _ _ _ _ _ (omega arith) c.loop-i-test.false l.2 l.3
