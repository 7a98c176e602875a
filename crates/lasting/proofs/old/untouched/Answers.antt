use Rattle.lasting.proofs.WholeLaws.{whole_noted, flags_room}
use Rattle.lasting.proofs.OldLaws.{old_word, old_inside, old_bounded, old_small, old_readable, old_short, same_step}
use native.Mathlib.Omega.{arith}
use Rattle.lasting.proofs.old.untouched.Goals as goal

pub overflow_add-p : goal.overflow_add-p
overflow_add-p c = omega (arith, old_word _ _ _ _ _ _ _ _ c.requires.0.3 _ _ _ _ c.requires.1.1)

pub slice_bounds-make_untouched-end : goal.slice_bounds-make_untouched-end
slice_bounds-make_untouched-end c = old_inside _ _ _ _ _ _ _ _ c.requires.0.3 _ _ _ _ c.requires.1.1

pub make_untouched-requires : goal.make_untouched-requires
make_untouched-requires c = record { noted = (whole_noted _ _ _ _ _ _ _ _ c.requires.0.3 _ _ c.requires.3, flags_room _ _ _ _ _ _ _ _ c.requires.0.3 _ c.flags_of-flags.ensures, old_bounded _ _ _ _ _ _ _ _ c.requires.0.3 _ _ _ _ c.requires.1.1, old_small _ _ _ _ _ _ _ _ c.requires.0.3 _ _ _ _ c.requires.1.1, old_readable _ _ _ _ _ _ _ _ c.requires.0.3 _ _ _ _ c.requires.1.1); short = (c.requires.2, old_short _ _ _ _ _ _ _ _ c.requires.0.3 _ _ _ _ c.requires.1.1 (λ k. omega (arith, c.type_inv.d k))) }

pub returns : goal.returns
returns c = same_step _ _ _ _ _ _ _ _ c.requires.0.3 _ _ _ _ _ _ (λ k. omega (arith, c.type_inv.d k)) _ c.flags_of-flags.ensures _ _ _ c.make_untouched.ensures c.step_of.ensures
