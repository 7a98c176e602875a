use Rattle.tree.proofs.FieldLaws.{attr_whole, attr_tree_lem}
use mathlib.Core.Path.{ap, ◌∙◌}
use Rattle.base.specs.Verdict.{first_fault}
use Rattle.tree.proofs.attr_tree.Goals as goal

pub check-requires : goal.check-requires
check-requires c = attr_whole _ c.requires

pub returns : goal.returns
returns c = c.check.ensures ∙ ap first_fault (attr_tree_lem _ c.requires)
