use Rattle.fields.proofs.FieldLaws.{count_fill}
use mathlib.Core.Path.{sym, ◌∙◌}
use Rattle.deep.proofs.acts_of.Goals as goal

pub attr_acts-requires : goal.attr_acts-requires
attr_acts-requires c = count_fill _ _ _ _ (sym c.tally_of.ensures ∙ c.in-Ok.is)
