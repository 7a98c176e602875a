use Rattle.composing.proofs.ActsLaws.{acts_turn, deleted_over}
use Rattle.composing.proofs.NextLaws.{seeking_start, seeking_leads, seeking_falls, seeking_found, seeking_more}
use Rattle.composing.proofs.acts.deleted_from.Goals as goal

pub loop-p-init : goal.loop-p-init
loop-p-init c = seeking_start _ _ _ _ _ c.requires.1 c.next-p.ensures

pub stated_at-requires : goal.stated_at-requires
stated_at-requires c = search acts_turn

pub overflow_add-p : goal.overflow_add-p
overflow_add-p c = search acts_turn

pub key_at-found-requires : goal.key_at-found-requires
key_at-found-requires c = search acts_turn

pub overflow_add-p-in-loop-p : goal.overflow_add-p-in-loop-p
overflow_add-p-in-loop-p c = search acts_turn

pub slice_bounds-deletes-count : goal.slice_bounds-deletes-count
slice_bounds-deletes-count c = search acts_turn

pub slice_bounds-deletes-start : goal.slice_bounds-deletes-start
slice_bounds-deletes-start c = search acts_turn

pub slice_bounds-deletes-end : goal.slice_bounds-deletes-end
slice_bounds-deletes-end c = search acts_turn

pub deletes-gone-requires : goal.deletes-gone-requires
deletes-gone-requires c = search acts_turn

pub returns-then-gone : goal.returns-then-gone
returns-then-gone c = seeking_found _ _ _ _ _ _ c.loop-p.invariant c.loop-p-test.true _ c.stated_at.ensures _ c.in-Ok.is _ c.key_at-found.ensures.0 _ c.deletes-gone.ensures c.if-gone.true

pub overflow_add-p-in-loop-p-2 : goal.overflow_add-p-in-loop-p-2
overflow_add-p-in-loop-p-2 c = search acts_turn

pub next-p-requires-in-loop-p : goal.next-p-requires-in-loop-p
next-p-requires-in-loop-p c = (c.requires.0, seeking_leads _ _ _ _ _ _ c.loop-p.invariant c.loop-p-test.true _ c.stated_at.ensures _ c.in-Ok.is, c.requires.2)

pub loop-p-smaller : goal.loop-p-smaller
loop-p-smaller c = seeking_falls _ _ _ _ _ _ c.loop-p.invariant c.loop-p-test.true _ c.stated_at.ensures _ c.in-Ok.is _ c.next-p-in-loop-p.ensures

pub loop-p-preserved : goal.loop-p-preserved
loop-p-preserved c = seeking_more _ _ _ _ _ _ c.loop-p.invariant c.loop-p-test.true _ c.stated_at.ensures _ c.in-Ok.is _ c.key_at-found.ensures.0 _ c.deletes-gone.ensures _ c.next-p-in-loop-p.ensures

pub returns-in_default : goal.returns-in_default
returns-in_default c = search acts_turn

pub returns : goal.returns
returns c = deleted_over _ _ _ c.loop-p-test.false _ _ c.loop-p.invariant.answer
