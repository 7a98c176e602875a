use mathlib.Core.Path.{refl}
use Rattle.references.proofs.RecordLaws.{tuples_more, tuples_turn}
use borrow.Author.Rules.{rules}
use native.Mathlib.Omega.{arith}
use mathlib.Core.Path.{ap}
use mathlib.Core.Bool.{not}
use Rattle.references.proofs.record.spas_named.Goals as goal

pub loop-at-init : goal.loop-at-init
loop-at-init c = (refl, refl, search rules, omega arith, omega arith, search tuples_turn, search tuples_turn)

pub returns-then-not-exists : goal.returns-then-not-exists
returns-then-not-exists c = (search tuples_turn, search rules)

pub overflow_add-at : goal.overflow_add-at
overflow_add-at c = search tuples_turn

pub overflow_add-j : goal.overflow_add-j
overflow_add-j c = search tuples_turn

pub loop-at-smaller : goal.loop-at-smaller
loop-at-smaller c = search tuples_turn

pub loop-at-preserved : goal.loop-at-preserved
loop-at-preserved c = let inv = c.loop-at.invariant in
    let more = tuples_more _ _ _ _ _ _ _ inv.6 c.loop-at-test.true inv.5 _ _ _ _ inv.2 _ c.key_at.ensures.0 c.key_at.ensures.1 _ c.exists.ensures.0 (ap not c.if-not-exists.false) in
    (search rules, search rules, search rules, search tuples_turn, search tuples_turn, search tuples_turn, more)

pub returns : goal.returns
returns c = (search tuples_turn, search rules)
