use mathlib.Core.Logic.{inl, inr}
use mathlib.Core.Path.{sym, ap}
use Rattle.rules.specs.Written.{coord_tag}
use Rattle.emission.proofs.identifier.coordinate_tag.Goals as goal

pub returns-in-Point : goal.returns-in-Point
unfolding coord_tag
returns-in-Point c = ap coord_tag (sym c.in-Point.is)

pub returns-in-Info : goal.returns-in-Info
unfolding coord_tag
returns-in-Info c = elim c.in-Info.is [ inl e ↦ ap coord_tag (sym e) | inr m ↦ elim m [ inl e ↦ ap coord_tag (sym e) | inr e ↦ ap coord_tag (sym e) ] ]
