use mathlib.Core.Path.{refl}
use Rattle.tree.specs.Known.{there}
use Rattle.tree.proofs.DueLaws.{all_due_none, all_due_less, tallied_none, tuple_within, whole_on, reach_behind, on_less, before_end, held_tallied, held_due}
use borrow.Author.Rules.{rules}
use mathlib.Core.Path.{ap}
use mathlib.Core.Bool.{not}
use Rattle.tree.proofs.due.held.Goals as goal

pub loop-at-init : goal.loop-at-init
loop-at-init c = (refl, search rules, there refl, tallied_none _ _ _ _ (c.fill.ensures.after (λ y e. e)), all_due_none _)

pub join-requires : goal.join-requires
join-requires c = let l = c.loop-at.invariant in let s = c.requires in (tuple_within _ _ l.1 (before_end _ _ _ c.loop-at-test.true s.1), l.2, s.2, l.3)

pub loop-at-smaller : goal.loop-at-smaller
loop-at-smaller c = on_less _ _ _ (before_end _ _ _ c.loop-at-test.true c.requires.1) c.behind-at.ensures

pub loop-at-preserved : goal.loop-at-preserved
loop-at-preserved c = let l = c.loop-at.invariant in let s = c.requires in let on = c.behind-at.ensures in let told = c.join.ensures in let yes = (ap not c.if-not-join.false) in (search rules, whole_on _ _ _ l.1 (before_end _ _ _ c.loop-at-test.true s.1) on, reach_behind _ _ _ l.2 on, held_tallied _ _ _ 0 _ _ _ _ on told yes, held_due _ _ _ _ _ _ _ _ on told yes refl l.2 s.3 l.4)

pub returns : goal.returns
returns c = λ _. all_due_less _ _ _ c.loop-at.invariant.4 c.loop-at-test.false
