use mathlib.Core.Logic.{inl, inr}
use mathlib.Core.Path.{sym, ap}
use Rattle.rules.specs.Kind.{coded}
use Rattle.emission.proofs.identifier.has_code.Goals as goal

pub returns-in-Info : goal.returns-in-Info
unfolding coded
returns-in-Info c = elim c.in-Info.is [ inl e ↦ ap coded (sym e) | inr e ↦ ap coded (sym e) ]

pub returns-in-Point : goal.returns-in-Point
unfolding coded
returns-in-Point c = elim c.in-Point.is [ inl e ↦ ap coded (sym e) | inr e ↦ ap coded (sym e) ]
