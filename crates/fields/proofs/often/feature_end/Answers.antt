use mathlib.Core.Path.{◌∙◌}
use Rattle.fields.proofs.OftenLaws.{often_turn, often_in}
use Rattle.fields.proofs.often.feature_end.Goals as goal

pub returns-in_err-p : goal.returns-in_err-p
returns-in_err-p c = c.from_residual.ensures ∙ search (often_turn, c.in_err-p.was)

pub ranged32-requires : goal.ranged32-requires
ranged32-requires c = search (often_in, c.in_ok-p.was)

pub returns-in_err-q : goal.returns-in_err-q
returns-in_err-q c = c.from_residual-in_err-q.ensures ∙ search (often_turn, c.in_ok-p.was, c.in_err-q.was)

pub ranged16-requires : goal.ranged16-requires
ranged16-requires c = search (often_in, c.in_ok-p.was, c.in_ok-q.was)

pub returns-in_err-s : goal.returns-in_err-s
returns-in_err-s c = c.from_residual-in_err-s.ensures ∙ search (often_turn, c.in_ok-p.was, c.in_ok-q.was, c.in_err-s.was)

pub ranged16-requires-2 : goal.ranged16-requires-2
ranged16-requires-2 c = search (often_in, c.in_ok-p.was, c.in_ok-q.was, c.in_ok-s.was)

pub returns-in_err-t : goal.returns-in_err-t
returns-in_err-t c = c.from_residual-in_err-t.ensures ∙ search (often_turn, c.in_ok-p.was, c.in_ok-q.was, c.in_ok-s.was, c.in_err-t.was)

pub ranged8-requires-2 : goal.ranged8-requires-2
ranged8-requires-2 c = search (often_in, c.in_ok-p.was, c.in_ok-q.was, c.in_ok-s.was, c.in_ok-t.was)

pub returns : goal.returns
returns c = search (often_turn, c.in_ok-p.was, c.in_ok-q.was, c.in_ok-s.was, c.in_ok-t.was)
