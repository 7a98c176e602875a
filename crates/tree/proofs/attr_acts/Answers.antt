use Rattle.tree.proofs.FieldLaws.{acts_whole, attr_acts_lem}
use mathlib.Core.Path.{ap, ◌∙◌}
use Rattle.base.specs.Verdict.{first_fault}
use Rattle.tree.proofs.attr_acts.Goals as goal

pub check-requires : goal.check-requires
check-requires c = acts_whole _ c.requires

pub returns : goal.returns
returns c = c.check.ensures ∙ ap first_fault (attr_acts_lem _ c.requires)
