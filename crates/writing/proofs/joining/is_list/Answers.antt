use mathlib.Core.Logic.{inl, inr}
use mathlib.Core.Path.{◌∙◌}
use Rattle.writing.specs.House.{is_list}
use Rattle.writing.proofs.JoiningLaws.{list_ways, list_attr, list_spas}
use Rattle.writing.proofs.joining.is_list.Goals.{then-tag-eq-ATTR, else-tag-eq-ATTR}
use Rattle.writing.proofs.joining.is_list.Goals as goal

pub returns-then-tag-eq-SPAS : goal.returns-then-tag-eq-SPAS
returns-then-tag-eq-SPAS c = elim c.if-tag-eq-ATTR.branch [
  | then-tag-eq-ATTR w ↦ w.t-5-is ∙ list_attr _ _ c.if-joins.true w.if-tag-eq-ATTR.true
  | else-tag-eq-ATTR w ↦ elim c.if-tag-eq-SPAS.either [
    | inl a ↦ absurd (w.if-tag-eq-ATTR.false a)
    | inr b ↦ w.t-5-is ∙ list_spas _ _ c.if-joins.true b.0 b.1
  ]
]

pub returns-else-tag-eq-SPAS : goal.returns-else-tag-eq-SPAS
returns-else-tag-eq-SPAS c = search list_ways

pub returns-else-joins : goal.returns-else-joins
unfolding is_list
returns-else-joins c = rw c.if-joins.false
