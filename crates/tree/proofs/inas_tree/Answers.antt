use Rattle.tree.proofs.FieldLaws.{inas_long, inas_whole, inas_tree_lem}
use mathlib.Core.Path.{ap, ◌∙◌}
use Rattle.base.specs.Verdict.{first_fault}
use Rattle.tree.proofs.inas_tree.Goals as goal

pub slice_bounds-check-count : goal.slice_bounds-check-count
slice_bounds-check-count c = inas_long _ c.requires

pub slice_bounds-check-start : goal.slice_bounds-check-start
slice_bounds-check-start c = inas_long _ c.requires

pub check-requires : goal.check-requires
check-requires c = inas_whole _ c.requires

pub returns : goal.returns
returns c = c.check.ensures ∙ ap first_fault (inas_tree_lem _ c.requires)
