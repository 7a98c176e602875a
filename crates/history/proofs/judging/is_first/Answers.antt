use Rattle.keys.specs.Places.{here}
use mathlib.Core.Bool.{not}
use mathlib.Core.Path.{sym, ap, ◌∙◌}
use Rattle.history.proofs.JudgingLaws.{first_flag, first_found}
use Rattle.history.proofs.judging.is_first.Goals as goal

pub returns-then-not-flagged : goal.returns-then-not-flagged
returns-then-not-flagged c = ap not c.if-not-flagged.true ∙ first_flag _ _ _ _ _ c.requires.4 (sym c.flagged.ensures ∙ c.if-not-flagged.true)

pub next-requires : goal.next-requires
next-requires c = (c.requires.0, here, c.requires.2)

pub returns-else-not-flagged : goal.returns-else-not-flagged
returns-else-not-flagged c = first_found _ _ _ _ c.requires.0 c.requires.1 _ c.next.ensures
