use Rattle.fields.proofs.FieldLaws.{count_fill}
use mathlib.Core.Path.{sym, ◌∙◌}
use Rattle.deep.proofs.tree_of.Goals as goal

pub attr_tree-requires : goal.attr_tree-requires
attr_tree-requires c = count_fill _ _ _ _ (sym c.tally_of.ensures ∙ c.in-Ok.is)
