use mathlib.Core.Path.{◌∙◌}
use Rattle.fields.proofs.OftenLaws.{often_turn, often_in}
use Rattle.fields.proofs.often.spatial_end.Goals as goal

pub returns-in_err-p : goal.returns-in_err-p
returns-in_err-p c = c.from_residual.ensures ∙ search (often_turn, c.in_err-p.was)

pub any_bytes-requires : goal.any_bytes-requires
any_bytes-requires c = search (often_in, c.in_ok-p.was)

pub returns-in_err-q : goal.returns-in_err-q
returns-in_err-q c = c.from_residual-in_err-q.ensures ∙ search (often_turn, c.in_ok-p.was, c.in_err-q.was)

pub chosen8-requires-2 : goal.chosen8-requires-2
chosen8-requires-2 c = search (often_in, c.in_ok-p.was, c.in_ok-q.was)

pub returns-in_err-s : goal.returns-in_err-s
returns-in_err-s c = c.from_residual-in_err-s.ensures ∙ search (often_turn, c.in_ok-p.was, c.in_ok-q.was, c.in_err-s.was)

pub any_bytes-requires-2 : goal.any_bytes-requires-2
any_bytes-requires-2 c = search (often_in, c.in_ok-p.was, c.in_ok-q.was, c.in_ok-s.was)

pub returns-in_err-t : goal.returns-in_err-t
returns-in_err-t c = c.from_residual-in_err-t.ensures ∙ search (often_turn, c.in_ok-p.was, c.in_ok-q.was, c.in_ok-s.was, c.in_err-t.was)

pub any_bytes-requires-3 : goal.any_bytes-requires-3
any_bytes-requires-3 c = search (often_in, c.in_ok-p.was, c.in_ok-q.was, c.in_ok-s.was, c.in_ok-t.was)

pub returns-in_err-u : goal.returns-in_err-u
returns-in_err-u c = c.from_residual-in_err-u.ensures ∙ search (often_turn, c.in_ok-p.was, c.in_ok-q.was, c.in_ok-s.was, c.in_ok-t.was, c.in_err-u.was)

pub ranged8-requires : goal.ranged8-requires
ranged8-requires c = search (often_in, c.in_ok-p.was, c.in_ok-q.was, c.in_ok-s.was, c.in_ok-t.was, c.in_ok-u.was)

pub returns : goal.returns
returns c = search (often_turn, c.in_ok-p.was, c.in_ok-q.was, c.in_ok-s.was, c.in_ok-t.was, c.in_ok-u.was)
