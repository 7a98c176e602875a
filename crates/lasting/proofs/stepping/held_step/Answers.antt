use Rattle.lasting.proofs.WholeLaws.{whole_asks}
use Rattle.lasting.proofs.StepLaws.{held_step, kept_inas, kept_spas}
use Rattle.lasting.proofs.stepping.held_step.Goals as goal

pub make_held-requires : goal.make_held-requires
make_held-requires c = record { asks = (whole_asks _ _ _ _ _ _ _ _ c.requires.0 _ _ c.requires.3 _ c.flags_of-flags.ensures, c.requires.0.wide, kept_inas _ _ _ _ c.requires.1, kept_spas _ _ _ _ c.requires.1); kept = (c.requires.0.ready.short.old, c.requires.0.ready.short.new, c.requires.2, c.requires.1) }

pub returns : goal.returns
returns c = held_step _ _ _ _ _ c.args.work.now c.flags_of-flags.ensures _ _ _ _ _ _ c.make_held.ensures _ c.step_of.ensures
