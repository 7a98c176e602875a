use Rattle.std.proofs.lemmas.Grind.{common_steps}
use Rattle.base.specs.Choice.{pick}
use lib.Dec.{ltb}
use Rattle.std.proofs.lemmas.Result.{err_from_is_err_and}
use Rattle.tree.proofs.TurnLaws.{going_start, entry_breaks, entry_goes, turn_asks, turn_bad, turn_less, turn_again}
use Rattle.tree.proofs.WalkLaws.{run_end, run_other}
use Rattle.tree.proofs.KnownLaws.{known_into, fresh_into}
use Rattle.tree.proofs.CountLaws.{past_above, whole_past, reach_on}
use mathlib.Core.Path.{◌≡◌, refl, sym, ◌∙◌}
use native.Mathlib.Omega.{arith}
use Rattle.tree.proofs.walk.+entry_run.Goals as goal

pub entry-breaks-requires : goal.entry-breaks-requires
entry-breaks-requires t c = omega (arith, past_above c.args.b.now c.args.at, whole_past _ _ c.requires.0.whole c.requires.1)

pub entry-returns-then-breaks : goal.entry-returns-then-breaks
entry-returns-then-breaks t c = entry_breaks _ _ _ _ _ _ _ c.breaks.ensures c.requires.2 c.if-breaks.true

pub entry-is_closed-childless-requires : goal.entry-is_closed-childless-requires
entry-is_closed-childless-requires t c = omega (arith, past_above c.args.b.now c.args.at, whole_past _ _ c.requires.0.whole c.requires.1)

pub entry-run-requires : goal.entry-run-requires
entry-run-requires t c = let e = c.behind-first.ensures in let above = past_above c.args.b.now c.args.at in (omega (arith, above, e, c.requires.1), (rw e (known_into _ _ _ _ c.requires.1 refl c.requires.0), rw e (fresh_into _ _ _ _ refl c.requires.0), c.requires.3))

pub entry-returns : goal.entry-returns
entry-returns t c = entry_goes _ _ _ _ _ _ _ c.breaks.ensures c.requires.2 _ _ _ c.if-breaks.false c.behind-first.ensures c.is_closed-childless.ensures c.run.ensures

pub run-loop-a-init : goal.run-loop-a-init
run-loop-a-init t c = going_start _ _ _ _ _ _ c.requires.0 c.requires.1

pub run-number-requires : goal.run-number-requires
run-number-requires t c = let b = c.args.b.now in let a = c.loop-a.a in omega (arith, past_above b a, whole_past b a c.loop-a.invariant.known.whole c.loop-a-test.true)

pub run-returns-then-number-parent : goal.run-returns-then-number-parent
run-returns-then-number-parent t c = sym (run_other _ _ _ _ _ _ (λ e. c.if-number-parent.true (c.number.ensures ∙ e))) ∙ c.loop-a.invariant.same

pub run-number-code-requires : goal.run-number-code-requires
run-number-code-requires t c = let b = c.args.b.now in let a = c.loop-a.a in omega (arith, past_above b a, whole_past b a c.loop-a.invariant.known.whole c.loop-a-test.true)

pub run-due_index-due-requires-clause-running : goal.run-due_index-due-requires-clause-running
run-due_index-due-requires-clause-running t c = let l = c.loop-a.invariant in (c.requires.0.whole, c.requires.0.reached, reach_on _ _ _ l.reached, c.loop-a-test.true, c.requires.1, l.seen)

pub run-entry-requires : goal.run-entry-requires
run-entry-requires t c = let l = c.loop-a in let a = turn_asks l.invariant _ _ _ _ c.loop-a-test.true c.number.ensures c.if-number-parent.false c.number-code.ensures c.due_index-due.ensures in (omega (arith, reach_on c.args.b.now c.args.at l.a l.invariant.reached, c.loop-a-test.true), (a.0, a.1, a.2, c.requires.2))

pub run-returns-in_err-x : goal.run-returns-in_err-x
run-returns-in_err-x t c =
    let p = err_from_is_err_and c.from_residual.result c.from_residual.ensures.1 in
    rw (p.1, p.2) (turn_bad c.loop-a.invariant _ _ _ _ c.loop-a-test.true c.number.ensures c.if-number-parent.false c.number-code.ensures c.due_index-due.ensures _ c.entry.ensures _ c.in_err-x.was)

pub run-loop-a-smaller : goal.run-loop-a-smaller
run-loop-a-smaller t c = turn_less c.loop-a.invariant _ _ _ _ c.loop-a-test.true c.number.ensures c.if-number-parent.false c.number-code.ensures c.due_index-due.ensures _ c.entry.ensures _ _ c.in_ok-x.was

pub run-loop-a-preserved : goal.run-loop-a-preserved
run-loop-a-preserved t c =
    let top : c.max-top.result ≡ pick (ltb c.loop-a.top c.number-code.result) c.number-code.result c.loop-a.top = grind (arith, common_steps) in
    turn_again c.loop-a.invariant _ _ _ _ c.loop-a-test.true c.number.ensures c.if-number-parent.false c.number-code.ensures c.due_index-due.ensures _ c.entry.ensures _ _ _ _ c.in_ok-x.was c.many_with-many.ensures top

pub run-returns : goal.run-returns
run-returns t c = sym (run_end _ _ _ _ _ _ c.loop-a-test.false) ∙ c.loop-a.invariant.same
