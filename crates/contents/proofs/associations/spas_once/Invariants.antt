use Rattle.contents.specs.Keys.{top_with, seen_before, spas_from}
use mathlib.Core.Path.{◌≡◌}
use Rattle.contents.proofs.associations.spas_once.Given as goal

abbrev pub invariant-loop-j : goal.invariant-loop-j
invariant-loop-j l = (l.top ≡ top_with 0 (seen_before l.r l.h l.p l.n l.b l.j)) × (spas_from l.r l.h l.p l.n l.b l.j l.top ≡ spas_from l.r l.h l.p l.n l.b 0 l.largest)
