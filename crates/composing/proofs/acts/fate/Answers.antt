use Rattle.composing.proofs.ActsLaws.{acts_turn, fate_over}
use Rattle.composing.proofs.NextLaws.{late_leads, going_start, going_leads, going_falls, going_more}
use Rattle.composing.proofs.acts.fate.Goals as goal

pub next-p-requires : goal.next-p-requires
next-p-requires c = (c.requires.0, late_leads c.late-from.ensures, c.requires.1)

pub loop-p-init : goal.loop-p-init
loop-p-init c = going_start _ _ _ _ _ _ c.requires.0 c.late-from.ensures c.next-p.ensures

pub stated_at-requires : goal.stated_at-requires
stated_at-requires c = search acts_turn

pub overflow_add-p : goal.overflow_add-p
overflow_add-p c = search acts_turn

pub key_at-found-requires : goal.key_at-found-requires
key_at-found-requires c = search acts_turn

pub overflow_add-p-in-loop-p : goal.overflow_add-p-in-loop-p
overflow_add-p-in-loop-p c = search acts_turn

pub slice_bounds-leaves-count : goal.slice_bounds-leaves-count
slice_bounds-leaves-count c = search acts_turn

pub slice_bounds-leaves-start : goal.slice_bounds-leaves-start
slice_bounds-leaves-start c = search acts_turn

pub slice_bounds-leaves-end : goal.slice_bounds-leaves-end
slice_bounds-leaves-end c = search acts_turn

pub leaves-stands-requires : goal.leaves-stands-requires
leaves-stands-requires c = search acts_turn

pub overflow_add-p-in-loop-p-2 : goal.overflow_add-p-in-loop-p-2
overflow_add-p-in-loop-p-2 c = search acts_turn

pub next-p-requires-in-loop-p : goal.next-p-requires-in-loop-p
next-p-requires-in-loop-p c = (c.requires.0, going_leads _ _ _ _ _ _ c.loop-p.invariant c.loop-p-test.true _ c.stated_at.ensures _ c.in-Ok.is, c.requires.1)

pub loop-p-smaller : goal.loop-p-smaller
loop-p-smaller c = going_falls _ _ _ _ _ _ c.loop-p.invariant c.loop-p-test.true _ c.stated_at.ensures _ c.in-Ok.is _ c.next-p-in-loop-p.ensures

pub loop-p-preserved : goal.loop-p-preserved
loop-p-preserved c = going_more _ _ _ _ _ _ c.loop-p.invariant c.loop-p-test.true _ c.stated_at.ensures _ c.in-Ok.is _ c.key_at-found.ensures.0 _ c.leaves-stands.ensures _ c.next-p-in-loop-p.ensures

pub returns-in_default : goal.returns-in_default
returns-in_default c = search acts_turn

pub returns : goal.returns
returns c = fate_over _ _ _ c.loop-p-test.false _ _ c.loop-p.invariant.answer
