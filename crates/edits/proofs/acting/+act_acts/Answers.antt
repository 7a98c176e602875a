use mathlib.Core.Path.{refl, sym, ◌∙◌}
use mathlib.Core.List.{[]}
use Rattle.std.proofs.lemmas.Result.{err_from_is_err_and}
use Rattle.tree.proofs.CountLaws.{past_above}
use Rattle.items.proofs.TupleLaws.{tuples_past, tuples_next}
use Rattle.edits.proofs.ReadLaws.{valued_text}
use Rattle.edits.proofs.TurnLaws.{act_refused, act_gone, act_led, act_lead, acts_start, acts_end, acts_other, acts_no, acts_past, acts_turn}
use native.Mathlib.Omega.{arith}
use Rattle.edits.proofs.acting.+act_acts.Goals as goal

pub act-behind-first-requires : goal.act-behind-first-requires
act-behind-first-requires t c = omega (arith, tuples_past _ _ _ c.requires.0 c.requires.1)

pub act-overflow_add-full : goal.act-overflow_add-full
act-overflow_add-full t c = omega (arith, c.requires)

pub act-perform-deed-requires : goal.act-perform-deed-requires
act-perform-deed-requires t c = let p = c.requires in
    let f = tuples_past _ _ _ p.0 p.1 in
    let g = past_above c.args.u.now c.args.at in
    (rw c.behind-first.ensures (sym (valued_text _ _)), omega arith, omega arith, omega arith, p.8, p.5, p.6)

pub act-overflow_add-result : goal.act-overflow_add-result
act-overflow_add-result t c = omega (arith, c.requires)

pub act-overflow_add-place : goal.act-overflow_add-place
act-overflow_add-place t c = omega (arith, c.requires)

pub act-overflow_add-i : goal.act-overflow_add-i
act-overflow_add-i t c = let l = act_led _ c.args.end _ c.args.place _ _ _ _ _ [] _ _ _ _ (c.perform-deed.ensures [] _) c.in-Lead.is in
    omega (arith, c.requires)

pub act-overflow_add-depth : goal.act-overflow_add-depth
act-overflow_add-depth t c = omega (arith, c.requires)

pub act-acts-requires : goal.act-acts-requires
act-acts-requires t c = let p = c.requires in
    let l = act_led _ c.args.end _ c.args.place _ _ _ _ _ [] _ _ _ _ (c.perform-deed.ensures [] _) c.in-Lead.is in
    let f = tuples_past _ _ _ p.0 p.1 in
    let g = past_above c.args.u.now c.args.at in
    let e = c.behind-first.ensures in
    let k = c.perform-deed.auto.w in
    (omega arith, (rw e (tuples_next _ _ _ p.0 p.1), p.2, p.3, omega arith, omega arith, omega arith, omega arith, omega arith))

pub act-shape_of-w-in-Not : goal.act-shape_of-w-in-Not
act-shape_of-w-in-Not t c = c.perform-deed.auto.w

pub act-returns-in-Not : goal.act-returns-in-Not
act-returns-in-Not t c = λ s. act_refused _ _ _ _ _ _ _ _ _ s _ _ _ (c.perform-deed.ensures s _) c.in-Not.is

pub act-shape_of-w-in-Gone : goal.act-shape_of-w-in-Gone
act-shape_of-w-in-Gone t c = c.perform-deed.auto.w

pub act-returns-in-Gone : goal.act-returns-in-Gone
act-returns-in-Gone t c = let p = c.requires in
    λ s. act_gone _ _ _ _ _ _ _ _ _ s _ _ _ _ (c.perform-deed.ensures s _) c.in-Gone.is c.behind-first.ensures (tuples_past _ _ _ p.0 p.1)

pub act-shape_of-w-in-Lead : goal.act-shape_of-w-in-Lead
act-shape_of-w-in-Lead t c = c.acts.auto.w ∙ c.perform-deed.auto.w

pub act-returns-in-Lead : goal.act-returns-in-Lead
act-returns-in-Lead t c = let p = c.requires in
    λ s. act_lead _ _ _ _ _ _ _ _ _ s _ _ _ _ _ _ _ (act_led _ c.args.end _ c.args.place _ _ _ _ _ s _ _ _ _ (c.perform-deed.ensures s _) c.in-Lead.is) c.behind-first.ensures (tuples_past _ _ _ p.0 p.1) refl (c.acts.ensures s)

pub acts-loop-a-init : goal.acts-loop-a-init
acts-loop-a-init t c = acts_start _ _ _ _ _ _ _ _ _ _ c.requires.0 c.requires.4 c.requires.3

pub acts-overflow_add-a : goal.acts-overflow_add-a
acts-overflow_add-a t c = omega (arith, c.requires, tuples_past _ _ _ c.loop-a.invariant.whole c.loop-a-test.true, past_above c.args.u.now c.loop-a.a)

pub acts-number-requires : goal.acts-number-requires
acts-number-requires t c = omega (arith, c.requires, tuples_past _ _ _ c.loop-a.invariant.whole c.loop-a-test.true, past_above c.args.u.now c.loop-a.a)

pub acts-shape_of-w-then-number-parent : goal.acts-shape_of-w-then-number-parent
acts-shape_of-w-then-number-parent t c = c.loop-a.invariant.long

pub acts-returns-then-number-parent : goal.acts-returns-then-number-parent
acts-returns-then-number-parent t c = λ s. acts_other _ _ _ _ _ _ _ _ _ _ _ _ _ _ c.loop-a.invariant s c.loop-a-test.true (λ e. c.if-number-parent.true (c.number.ensures.0 ∙ e))

pub acts-act-requires : goal.acts-act-requires
acts-act-requires t c = let p = c.requires in
    let i = c.loop-a.invariant in
    let t = c.loop-a-test.true in
    (omega arith, (i.whole, t, p.1, p.2, i.slow, i.room, p.5, omega arith, omega arith))

pub acts-shape_of-w-in_err-a : goal.acts-shape_of-w-in_err-a
acts-shape_of-w-in_err-a t c = c.act.auto.w ∙ c.loop-a.invariant.long

pub acts-returns-in_err-a : goal.acts-returns-in_err-a
acts-returns-in_err-a t c =
    let p = err_from_is_err_and c.from_residual.result c.from_residual.ensures.1 in
    rw (p.1, p.2) (λ s. acts_no _ _ _ _ _ _ _ _ _ _ _ _ _ _ c.loop-a.invariant c.loop-a-test.true (sym c.number.ensures.0 ∙ c.if-number-parent.false) _ _ c.act.ensures s _ c.in_err-a.was)

pub acts-loop-a-smaller : goal.acts-loop-a-smaller
acts-loop-a-smaller t c = omega (arith, acts_past _ _ _ _ _ _ _ _ _ _ _ _ _ _ c.loop-a.invariant c.loop-a-test.true (sym c.number.ensures.0 ∙ c.if-number-parent.false) _ _ c.act.ensures _ c.in_ok-a.was)

pub acts-loop-a-preserved : goal.acts-loop-a-preserved
acts-loop-a-preserved t c = acts_turn _ _ _ _ _ _ _ _ _ _ _ _ _ _ c.loop-a.invariant c.loop-a-test.true (sym c.number.ensures.0 ∙ c.if-number-parent.false) _ _ c.act.ensures _ c.in_ok-a.was c.act.auto.w

pub acts-shape_of-w : goal.acts-shape_of-w
acts-shape_of-w t c = c.loop-a.invariant.long

pub acts-returns : goal.acts-returns
acts-returns t c = λ s. acts_end _ _ _ _ _ _ _ _ _ _ _ _ _ _ c.loop-a.invariant s c.loop-a-test.false
