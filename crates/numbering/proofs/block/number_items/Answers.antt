use mathlib.Core.Path.{refl}
use lib.ListN.{length-set}
use Rattle.numbering.proofs.BlockLaws.{numbered_none, numbered_more, numbered_all}
use borrow.Author.Rules.{rules}
use native.Mathlib.Omega.{arith}
use Rattle.numbering.proofs.block.number_items.Goals as goal

pub loop-i-init : goal.loop-i-init
loop-i-init c = let s = c.requires.tallied in
    (refl, refl, refl, s.0, s.1, numbered_none _ _ _)

pub next_parent-parent-requires : goal.next_parent-parent-requires
next_parent-parent-requires c = (omega arith, omega arith, c.loop-i.invariant.4)

pub join-twins-requires : goal.join-twins-requires
join-twins-requires c = let n = c.next_parent-parent.ensures in
    record { i_in_bounds = (omega arith, omega arith, omega arith, omega arith); counted = (n.0, n.1, c.loop-i.invariant.3) }

pub bounds-numbers-k-in-loop-i : goal.bounds-numbers-k-in-loop-i
bounds-numbers-k-in-loop-i c = simp length-set (omega arith)

pub loop-i-preserved : goal.loop-i-preserved
loop-i-preserved c = let l = c.loop-i.invariant in
    let j = c.join-twins.ensures in
    let n = c.next_parent-parent.ensures in
    (search rules, search rules, search rules, j.tallied, n.2, numbered_more _ _ _ _ _ _ (omega arith) (omega arith) l.5 (j.twins refl) n.0)

pub returns : goal.returns
returns c = let l = c.loop-i.invariant in
    numbered_all _ _ _ _ _ _ (omega arith) c.loop-i-test.false l.5 l.4
