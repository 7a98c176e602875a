use Rattle.references.proofs.RecordLaws.{field_ways}
use borrow.Author.Rules.{rules}
use Rattle.references.proofs.record.field_named.Goals as goal

pub inas_named-requires : goal.inas_named-requires
inas_named-requires c = (search rules, search field_ways)

pub returns-then-tag-eq-INAS : goal.returns-then-tag-eq-INAS
returns-then-tag-eq-INAS c = (search field_ways, search rules)

pub spas_named-requires : goal.spas_named-requires
spas_named-requires c = (search rules, search rules, search field_ways)

pub returns-then-tag-eq-SPAS : goal.returns-then-tag-eq-SPAS
returns-then-tag-eq-SPAS c = (search field_ways, search rules)

pub returns : goal.returns
returns c = (search field_ways, search rules)
