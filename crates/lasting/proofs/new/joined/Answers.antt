use Rattle.lasting.proofs.WholeLaws.{whole_noted}
use Rattle.lasting.proofs.NewLaws.{absent_playing, new_stays, new_step}
use native.Mathlib.Omega.{arith}
use borrow.Author.Rules.{rules}
use Rattle.lasting.proofs.new.joined.Goals as goal

pub play_named-last-requires : goal.play_named-last-requires
play_named-last-requires c = let i = c.requires.1.there.inside in
    record { short = (c.requires.0.ready.short, c.requires.1.there.rest, omega arith, c.requires.0.wide); noted = (whole_noted _ _ _ _ _ _ _ _ c.requires.0 _ _ c.requires.3, c.requires.1.there.leads); playing = absent_playing _ _ _ _ }

pub last_step-requires : goal.last_step-requires
last_step-requires c = let o = new_stays _ _ _ _ _ _ _ _ c.requires.0 _ _ _ _ c.requires.1.there _ _ c.play_named-last.ensures c.requires.1.inserts c.requires.1.kept (λ k. omega (arith, c.type_inv.u k)) (search rules) in
    (o.0, o.1, c.requires.2, c.requires.3)

pub returns : goal.returns
returns c = new_step _ _ _ _ _ _ _ _ c.requires.0 _ _ _ _ _ _ _ _ _ c.play_named-last.ensures (λ k. omega (arith, c.type_inv.u k)) c.last_step.ensures
