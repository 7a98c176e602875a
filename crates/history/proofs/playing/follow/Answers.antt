-- `follow` meets its contract. Assumes nothing.
use Rattle.history.proofs.CourseLaws.{onto_start, onto_over, onto_nothing, onto_act, onto_leads, onto_word, onto_falls, onto_no, onto_next}
use mathlib.Core.Path.{refl}
use borrow.Author.Rules.{rules}
use Rattle.history.proofs.playing.follow.Goals as goal

pub next-q-requires : goal.next-q-requires
next-q-requires c = c.requires.sound

pub loop-q-init : goal.loop-q-init
loop-q-init c = (onto_start _ _ _ _ _ _ _ c.requires.short.0 c.requires.short.1 c.requires.short.2 c.requires.sound.1 c.requires.playing _ c.next-q.ensures, refl)

pub look_at-requires : goal.look_at-requires
look_at-requires c = (c.requires.short.0.new, c.loop-q.invariant.0.so_far.sound.inside)

pub returns-in_default : goal.returns-in_default
returns-in_default c = onto_nothing _ _ _ _ _ _ _ _ _ _ c.loop-q.invariant.0 c.requires.short.0 _ c.look_at.ensures c.loop-q-test.true c.in_default.is _

pub act-requires : goal.act-requires
act-requires c = record { short = (c.requires.short.0, c.loop-q.invariant.0.so_far.rest, c.loop-q-test.true, search rules); acting = onto_act _ _ _ _ _ _ _ _ _ _ c.loop-q.invariant.0 c.requires.short.0 _ c.look_at.ensures c.loop-q-test.true _ c.in-Some.is }

pub returns-in-Err : goal.returns-in-Err
returns-in-Err c = onto_no _ _ _ _ _ _ _ _ _ _ c.loop-q.invariant.0 c.requires.short.0 _ c.look_at.ensures c.loop-q-test.true _ c.in-Some.is _ _ c.act.ensures _ c.in-Err.is

pub overflow_add-q : goal.overflow_add-q
overflow_add-q c = let k = onto_word _ _ _ _ _ _ _ _ _ _ c.loop-q.invariant.0 c.requires.short.0 _ c.look_at.ensures c.loop-q-test.true _ c.in-Some.is in search rules

pub next-q-requires-in-loop-q : goal.next-q-requires-in-loop-q
next-q-requires-in-loop-q c = (c.requires.sound.0, onto_leads _ _ _ _ _ _ _ _ _ _ c.loop-q.invariant.0 c.requires.short.0 _ c.look_at.ensures c.loop-q-test.true _ c.in-Some.is, c.requires.sound.2)

pub loop-q-smaller : goal.loop-q-smaller
loop-q-smaller c = onto_falls _ _ _ _ _ _ _ _ _ _ c.loop-q.invariant.0 c.requires.short.0 _ c.look_at.ensures c.loop-q-test.true _ c.in-Some.is _ c.next-q-in-loop-q.ensures

pub loop-q-preserved : goal.loop-q-preserved
loop-q-preserved c = (onto_next _ _ _ _ _ _ _ _ _ _ c.loop-q.invariant.0 c.requires.short.0 _ c.look_at.ensures c.loop-q-test.true _ c.in-Some.is _ _ c.act.ensures _ c.in-Ok.is _ c.next-q-in-loop-q.ensures, search rules)

pub returns-after-loop-q : goal.returns-after-loop-q
returns-after-loop-q c = onto_over _ _ _ _ _ _ _ _ _ _ c.loop-q.invariant.0 c.requires.short.0 c.loop-q-test.false
