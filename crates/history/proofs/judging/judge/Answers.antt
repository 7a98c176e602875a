-- `judge` meets its contract. Assumes nothing.
use mathlib.Core.Path.{refl}
use Rattle.history.proofs.JudgingLaws.{verdicts_start, verdicts_look, verdicts_word, verdicts_over, verdicts_nothing, verdicts_naming, verdicts_fits, verdicts_falls, verdicts_stop, verdicts_next}
use borrow.Author.Rules.{rules}
use native.Mathlib.Omega.{arith}
use Rattle.history.proofs.judging.judge.Goals as goal

pub loop-q-init : goal.loop-q-init
loop-q-init c = (verdicts_start _ _ _ _ c.requires.0 _, refl)

pub look_at-requires : goal.look_at-requires
look_at-requires c = verdicts_look _ _ _ _ c.requires.0 _ _ _ _ c.loop-q.invariant.0

pub returns-in_default : goal.returns-in_default
returns-in_default c = verdicts_nothing _ _ _ _ c.requires.0 _ _ _ _ c.loop-q.invariant.0 _ c.look_at.ensures c.loop-q-test.true c.in_default.is

pub first_stop-s-requires : goal.first_stop-s-requires
first_stop-s-requires c = let t = c.loop-q.invariant.0 in record { ready = (c.requires.0, c.requires.1, c.requires.3, search rules); leads = (t.leads, verdicts_naming _ _ _ _ c.requires.0 _ _ _ _ c.loop-q.invariant.0 _ c.look_at.ensures c.loop-q-test.true _ c.in-Some.is, t.flags, t.judging) }

pub overflow_add-result : goal.overflow_add-result
overflow_add-result c = omega (arith, verdicts_word _ _ _ _ c.requires.0 _ _ _ _ c.loop-q.invariant.0)

pub returns-then-s-q : goal.returns-then-s-q
returns-then-s-q c = verdicts_stop _ _ _ _ c.requires.0 _ _ _ _ c.loop-q.invariant.0 _ c.look_at.ensures c.loop-q-test.true _ c.in-Some.is _ _ c.first_stop-s.ensures c.if-s-q.true

pub mark-requires : goal.mark-requires
mark-requires c = omega (arith, c.requires.2, c.loop-q.invariant.1)

pub overflow_add-q : goal.overflow_add-q
overflow_add-q c = omega (arith, verdicts_fits _ _ _ _ c.requires.0 _ _ _ _ c.loop-q.invariant.0 _ c.look_at.ensures c.loop-q-test.true _ c.in-Some.is)

pub overflow_add-j : goal.overflow_add-j
overflow_add-j c = omega (arith, verdicts_word _ _ _ _ c.requires.0 _ _ _ _ c.loop-q.invariant.0)

pub loop-q-smaller : goal.loop-q-smaller
loop-q-smaller c = verdicts_falls _ _ _ _ c.requires.0 _ _ _ _ c.loop-q.invariant.0 _ c.look_at.ensures c.loop-q-test.true _ c.in-Some.is

pub loop-q-preserved : goal.loop-q-preserved
loop-q-preserved c = (verdicts_next _ _ _ _ c.requires.0 _ _ _ _ c.loop-q.invariant.0 _ c.look_at.ensures c.loop-q-test.true _ c.in-Some.is _ _ c.first_stop-s.ensures c.if-s-q.false (omega (arith, c.requires.2, c.loop-q.invariant.1)) _ c.mark.ensures, search rules)

pub returns : goal.returns
returns c = verdicts_over _ _ _ _ c.requires.0 _ _ _ _ c.loop-q.invariant.0 (omega arith)
