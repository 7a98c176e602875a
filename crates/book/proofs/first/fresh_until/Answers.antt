use mathlib.Core.Path.{refl}
use Rattle.book.proofs.FirstLaws.{going_fresh, until_turn}
use borrow.Author.Rules.{rules}
use native.Mathlib.Omega.{arith}
use Rattle.book.proofs.first.fresh_until.Goals as goal

pub loop-y-init : goal.loop-y-init
loop-y-init c = (refl, omega arith, search rules, search rules, search rules, search rules)

pub met-requires : goal.met-requires
met-requires c = record { known = search until_turn; noted = search until_turn }

pub returns-then-met : goal.returns-then-met
returns-then-met c = search until_turn

pub overflow_add-q : goal.overflow_add-q
overflow_add-q c = search until_turn

pub loop-y-preserved : goal.loop-y-preserved
loop-y-preserved c = let l = c.loop-y.invariant in
    let fr = going_fresh _ _ _ _ _ l.3 _ c.loop-y-test.true (search rules) _ c.look_at.ensures _ c.in-Some.is l.4 _ c.met.ensures c.if-met.false in
    (search rules, omega arith, omega arith, search until_turn, fr, search until_turn)

pub returns-in_default : goal.returns-in_default
returns-in_default c = search until_turn

pub returns : goal.returns
returns c = search until_turn
