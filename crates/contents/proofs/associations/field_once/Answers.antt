use Rattle.contents.proofs.OnceLaws.{field_once_ways}
use borrow.Author.Rules.{rules}
use Rattle.contents.proofs.associations.field_once.Goals as goal

pub inas_once-requires : goal.inas_once-requires
inas_once-requires c = (search rules, search rules, search field_once_ways, search rules)

pub returns-then-tag-eq-INAS : goal.returns-then-tag-eq-INAS
returns-then-tag-eq-INAS c = search field_once_ways

pub spas_once-requires : goal.spas_once-requires
spas_once-requires c = (search rules, search rules, search field_once_ways, search rules)

pub returns-then-tag-eq-SPAS : goal.returns-then-tag-eq-SPAS
returns-then-tag-eq-SPAS c = search field_once_ways

pub returns : goal.returns
returns c = search field_once_ways
