-- `act` meets its contract. Assumes nothing.
use Rattle.history.proofs.ActingLaws.{act_right, act_on_lem, act_done, act_refused, act_ways}
use mathlib.Core.Path.{sym, ◌∙◌}
use borrow.Author.Rules.{rules}
use Rattle.history.proofs.single.act.Goals as goal

pub overflow_add-at : goal.overflow_add-at
overflow_add-at c = search act_ways

pub key_at-requires : goal.key_at-requires
key_at-requires c = search act_ways

pub change-requires : goal.change-requires
change-requires c = record { at_value = (sym c.record_at.ensures ∙ c.in-Ok.is, c.requires.short.0.old, c.requires.short.0.new, search rules); h_value = ((act_right _ _ c.requires.short.1 c.requires.short.2 _ c.record_at.ensures _ c.in-Ok.is _ c.key_at.ensures.0 _ c.kind_of-k.ensures), act_on_lem _ _ c.requires.short.1 c.requires.short.2 _ c.record_at.ensures _ c.in-Ok.is _ (act_right _ _ c.requires.short.1 c.requires.short.2 _ c.record_at.ensures _ c.in-Ok.is _ c.key_at.ensures.0 _ c.kind_of-k.ensures) _ _ _ c.requires.acting) }

pub returns : goal.returns
returns c = act_done _ _ c.requires.short.1 c.requires.short.2 _ c.record_at.ensures _ c.in-Ok.is _ (act_right _ _ c.requires.short.1 c.requires.short.2 _ c.record_at.ensures _ c.in-Ok.is _ c.key_at.ensures.0 _ c.kind_of-k.ensures) _ _ _ _ _ c.change.ensures.0 c.change.ensures.1

pub returns-in_default : goal.returns-in_default
returns-in_default c = act_refused _ _ c.requires.short.1 c.requires.short.2 _ c.record_at.ensures _ c.in_default.is
