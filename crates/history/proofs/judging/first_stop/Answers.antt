use Rattle.sorting.specs.Places.{Indexed}
use mathlib.Core.Path.{sym, subst}
use Rattle.history.proofs.JudgingLaws.{ready_sound, stop_same, stop_earlier, is_listed, is_new}
use mathlib.Core.Path.{ap}
use mathlib.Core.Bool.{not}
use Rattle.history.proofs.judging.first_stop.Goals as goal

pub new_index-requires : goal.new_index-requires
new_index-requires c = c.requires.ready.2.inside

pub is_first-requires : goal.is_first-requires
is_first-requires c = (ready_sound _ _ _ _ c.requires.ready.0, c.requires.leads.0, subst (Indexed _ _) (sym c.new_index.ensures) c.requires.ready.2.new, c.requires.ready.3, c.requires.leads.2)

pub returns-then-not-is_first : goal.returns-then-not-is_first
returns-then-not-is_first c = stop_same _ _ _ _ c.requires.ready.0 _ _ c.requires.leads.0 _ c.requires.leads.3 (is_listed _ _ c.is_first.ensures (ap not c.if-not-is_first.true)) c.args.work.now

pub course-c-requires : goal.course-c-requires
course-c-requires c = record { ready = c.requires.ready; leads = (c.requires.leads.0, c.requires.leads.1, is_new _ _ c.is_first.ensures (ap not c.if-not-is_first.false)) }

pub returns : goal.returns
returns c = stop_earlier _ _ _ _ c.requires.ready.0 _ _ c.requires.leads.0 _ c.requires.leads.3 _ _ _ c.course-c.ensures _ c.earlier.ensures
