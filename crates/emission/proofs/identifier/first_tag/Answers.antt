use mathlib.Core.Path.{sym, ap}
use Rattle.rules.specs.Kind.{tag_of}
use Rattle.emission.proofs.identifier.first_tag.Goals as goal

pub returns-in-Info : goal.returns-in-Info
unfolding tag_of
returns-in-Info c = ap tag_of (sym c.in-Info.is)

pub returns-in-Point : goal.returns-in-Point
unfolding tag_of
returns-in-Point c = ap tag_of (sym c.in-Point.is)

pub returns-in-Multi : goal.returns-in-Multi
unfolding tag_of
returns-in-Multi c = ap tag_of (sym c.in-Multi.is)

pub returns-in-Feature : goal.returns-in-Feature
unfolding tag_of
returns-in-Feature c = ap tag_of (sym c.in-Feature.is)
