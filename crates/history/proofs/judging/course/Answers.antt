use Rattle.sorting.specs.Places.{Indexed}
use mathlib.Core.Path.{sym, subst}
use Rattle.history.proofs.JudgingLaws.{course_rest, course_inside, course_sound, there_playing, there_followed, gone_playing, gone_followed}
use Rattle.history.proofs.FindingLaws.{located}
use borrow.Author.Rules.{rules}
use Rattle.history.proofs.judging.course.Goals as goal

pub locate-requires : goal.locate-requires
locate-requires c = record { laid = (c.requires.ready.1, c.requires.ready.0.stock, c.requires.ready.0.once); indexed = (c.requires.ready.2.runs, c.requires.ready.2.inside, c.requires.ready.2.old) }

pub load_at-p-requires : goal.load_at-p-requires
load_at-p-requires c = let l = located _ _ c.requires.ready.0.stock c.requires.ready.0.once _ c.requires.ready.1.sound _ c.locate.ensures in (l.stock _ c.in-Some.is, l.inside _ c.in-Some.is, c.requires.ready.0.short.old, search rules)

pub follow-requires : goal.follow-requires
follow-requires c = record { short = (c.requires.ready.0.short, course_rest _ _ _ _ c.requires.ready.0 _ _ c.requires.leads.0 c.requires.leads.1 c.requires.leads.2, course_inside _ _ _ _ c.requires.ready.0 _ _ c.requires.leads.0 c.requires.leads.1 c.requires.leads.2, search rules); sound = (course_sound _ _ _ _ c.requires.ready.0 _ _ c.requires.leads.0 c.requires.leads.1 c.requires.leads.2, c.requires.leads.0, subst (Indexed _ _) (sym c.new_index-index.ensures) c.requires.ready.2.new); playing = there_playing _ _ _ _ c.requires.ready.0 _ _ c.requires.leads.0 c.requires.leads.1 c.requires.leads.2 c.requires.ready.1.sound _ c.locate.ensures _ c.in-Some.is _ _ c.load_at-p.ensures.0 }

pub returns-in-Some : goal.returns-in-Some
returns-in-Some c = there_followed _ _ _ _ c.requires.ready.0 _ _ c.requires.leads.0 c.requires.leads.1 c.requires.leads.2 c.requires.ready.1.sound _ c.locate.ensures _ c.in-Some.is _ _ c.load_at-p.ensures.0 c.args.work.now c.load_at-p.ensures.1 _ _ c.follow.ensures

pub follow-requires-in_default : goal.follow-requires-in_default
follow-requires-in_default c = record { short = (c.requires.ready.0.short, course_rest _ _ _ _ c.requires.ready.0 _ _ c.requires.leads.0 c.requires.leads.1 c.requires.leads.2, course_inside _ _ _ _ c.requires.ready.0 _ _ c.requires.leads.0 c.requires.leads.1 c.requires.leads.2, search rules); sound = (course_sound _ _ _ _ c.requires.ready.0 _ _ c.requires.leads.0 c.requires.leads.1 c.requires.leads.2, c.requires.leads.0, subst (Indexed _ _) (sym c.new_index-index.ensures) c.requires.ready.2.new); playing = gone_playing _ _ _ _ c.requires.ready.0 _ _ c.requires.leads.0 c.requires.leads.1 c.requires.leads.2 c.requires.ready.1.sound _ c.locate.ensures _ }

pub returns-in_default : goal.returns-in_default
returns-in_default c = gone_followed _ _ _ _ c.requires.ready.0 _ _ c.requires.leads.0 c.requires.leads.1 c.requires.leads.2 c.requires.ready.1.sound _ c.locate.ensures c.in_default.is _ _ _ c.follow-in_default.ensures
