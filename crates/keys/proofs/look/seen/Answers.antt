use native.Mathlib.Omega.{arith}
use Rattle.keys.proofs.SeenLaws.{seen_nothing, seen_in, seen_known, seen_later, seen_turn}
use Rattle.keys.proofs.look.seen.Goals as goal

pub returns-then-look-key : goal.returns-then-look-key
returns-then-look-key c = search seen_turn

pub overflow_add-p : goal.overflow_add-p
overflow_add-p c = search seen_turn

pub loop-preserved : goal.loop-preserved
loop-preserved c =
    let l = c.loop.invariant in
    let en = c.look_at.ensures in
    let x = c.in-Some.is in (
      seen_in _ _ _ l.1 (omega arith) _ en _ x,
      seen_known _ _ _ l.1 (omega arith) _ en _ x _ (omega arith),
      seen_later _ _ _ l.1 (omega arith) _ en _ x _ _ l.2 _ (omega arith) c.if-look-key.false,
    )

pub returns-in_default : goal.returns-in_default
returns-in_default c = seen_nothing _ _ _ c.loop.invariant.1 (omega arith) _ c.look_at.ensures c.in_default.is _

pub returns : goal.returns
returns c = search seen_turn
