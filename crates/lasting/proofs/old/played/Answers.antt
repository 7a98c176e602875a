use Rattle.lasting.proofs.WholeLaws.{whole_noted}
use Rattle.lasting.proofs.OldLaws.{old_replayable, old_stays, old_step}
use native.Mathlib.Omega.{arith}
use borrow.Author.Rules.{rules}
use Rattle.lasting.proofs.old.played.Goals as goal

pub replay-last-requires : goal.replay-last-requires
replay-last-requires c = (old_replayable _ _ _ _ _ _ _ _ c.requires.0 _ _ _ _ c.requires.1.2, c.requires.0.wide, whole_noted _ _ _ _ _ _ _ _ c.requires.0 _ _ c.requires.4)

pub last_step-requires : goal.last_step-requires
last_step-requires c = let o = old_stays _ _ _ _ _ _ _ _ c.requires.0 _ _ _ _ c.requires.1.2 _ _ c.replay-last.ensures c.requires.3 (λ k. omega (arith, c.type_inv.u k)) (search rules) in
    (o.0, o.1, c.requires.2, c.requires.4)

pub returns : goal.returns
returns c = old_step _ _ _ _ _ _ _ _ c.requires.0 _ _ _ _ _ _ _ _ _ c.replay-last.ensures c.requires.3 (λ k. omega (arith, c.type_inv.u k)) c.last_step.ensures
