use mathlib.Core.Path.{refl}
use Rattle.contents.proofs.ApartLaws.{hold_met, hold_apart, hold_turn}
use borrow.Author.Rules.{rules}
use mathlib.Core.Path.{ap}
use mathlib.Core.Bool.{not}
use Rattle.contents.proofs.once.all_new.Goals as goal

pub loop-y-init : goal.loop-y-init
loop-y-init c = (refl, search hold_turn, search hold_turn, search hold_turn)

pub loop-y-preserved : goal.loop-y-preserved
loop-y-preserved c = let l = c.loop-y.invariant in (
  search rules,
  search hold_turn,
  hold_met _ _ _ _ _ l.1 _ c.advance.ensures _ _ c.in-Some.is _ _ _ _ _ c.join.ensures (ap not c.if-not-join.false) l.2,
  hold_apart _ _ _ _ _ l.1 _ c.advance.ensures _ _ c.in-Some.is _ _ _ _ _ c.join.ensures (ap not c.if-not-join.false) l.2 _ refl c.requires.3 l.3,
)
