use Rattle.contents.proofs.EarlierLaws.{field_has_ways}
use Rattle.contents.proofs.earlier.field_has.Goals as goal

pub inas_is-requires : goal.inas_is-requires
inas_is-requires c = search field_has_ways

pub tuples_have-requires : goal.tuples_have-requires
tuples_have-requires c = (search field_has_ways, search field_has_ways)

pub returns-then-tag-eq-INAS : goal.returns-then-tag-eq-INAS
returns-then-tag-eq-INAS c = search field_has_ways

pub returns-else-tag-eq-INAS : goal.returns-else-tag-eq-INAS
returns-else-tag-eq-INAS c = search field_has_ways

pub returns-then-tag-eq-SPAS : goal.returns-then-tag-eq-SPAS
returns-then-tag-eq-SPAS c = search field_has_ways

pub returns-else-tag-eq-SPAS : goal.returns-else-tag-eq-SPAS
returns-else-tag-eq-SPAS c = search field_has_ways
