use native.Mathlib.Omega.{arith}
use Rattle.result.proofs.PassLaws.{within_place}
use Rattle.result.proofs.SideLaws.{turn_sound, turn_here, turn_stop, turn_on}
use Rattle.composing.proofs.ActsLaws.{turn_not, turn_word, turn_key, turn_place}
use Rattle.result.proofs.turn.turn.Goals as goal

pub overflow_add-p : goal.overflow_add-p
overflow_add-p c = omega (arith, turn_place _ _ (turn_sound _ _ _ _ _ _ _ c.requires.side.0 _ c.requires.whole.2 c.requires.side.1) c.requires.side.2 _ c.stated_at.ensures _ c.in-Ok.is)

pub key_at-k-requires : goal.key_at-k-requires
key_at-k-requires c = turn_key _ _ (turn_sound _ _ _ _ _ _ _ c.requires.side.0 _ c.requires.whole.2 c.requires.side.1) c.requires.side.2 _ c.stated_at.ensures _ c.in-Ok.is

pub returns-then-ends : goal.returns-then-ends
returns-then-ends c = turn_stop _ _ _ _ _ _ _ c.requires.side.0 _ c.requires.whole.2 c.requires.side.1 c.requires.side.2 _ c.stated_at.ensures _ c.in-Ok.is _ c.key_at-k.ensures.0 _ c.ends.ensures c.if-ends.true c.requires.whole.1 _ _

pub make-s-requires : goal.make-s-requires
make-s-requires c = (c.requires.whole.0, turn_here _ _ _ _ _ _ _ c.requires.side.0 _ c.requires.whole.2 c.requires.side.1 c.requires.side.2 _ c.stated_at.ensures _ c.in-Ok.is _ c.key_at-k.ensures.0, within_place _ c.requires.whole.2, c.requires.side.3)

pub overflow_add-p-2 : goal.overflow_add-p-2
overflow_add-p-2 c = omega (arith, turn_word _ _ (turn_sound _ _ _ _ _ _ _ c.requires.side.0 _ c.requires.whole.2 c.requires.side.1) c.requires.side.2 _ c.stated_at.ensures _ c.in-Ok.is)

pub after-requires : goal.after-requires
after-requires c = c.requires.whole.2

pub returns : goal.returns
returns c = turn_on _ _ _ _ _ _ _ c.requires.side.0 _ c.requires.whole.2 c.requires.side.1 c.requires.side.2 _ c.stated_at.ensures _ c.in-Ok.is _ c.key_at-k.ensures.0 _ c.ends.ensures c.if-ends.false _ _ _ _ c.requires.whole.0 _ c.requires.side.4 _ _ _ _ c.make-s.ensures _ c.after.ensures

pub returns-in_default : goal.returns-in_default
returns-in_default c = absurd (turn_not _ _ (turn_sound _ _ _ _ _ _ _ c.requires.side.0 _ c.requires.whole.2 c.requires.side.1) c.requires.side.2 _ c.stated_at.ensures _ c.in_default.is)
