use mathlib.Core.Path.{sym, ap}
use Rattle.rules.specs.Kind.{rcnm}
use Rattle.emission.proofs.identifier.record_name.Goals as goal

pub returns-in-Info : goal.returns-in-Info
unfolding rcnm
returns-in-Info c = ap rcnm (sym c.in-Info.is)

pub returns-in-Point : goal.returns-in-Point
unfolding rcnm
returns-in-Point c = ap rcnm (sym c.in-Point.is)

pub returns-in-Multi : goal.returns-in-Multi
unfolding rcnm
returns-in-Multi c = ap rcnm (sym c.in-Multi.is)

pub returns-in-Feature : goal.returns-in-Feature
unfolding rcnm
returns-in-Feature c = ap rcnm (sym c.in-Feature.is)
