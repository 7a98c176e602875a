use Rattle.composing.proofs.NamingLaws.{field_ways}
use borrow.Author.Rules.{rules}
use Rattle.composing.proofs.naming.field_stands.Goals as goal

pub inas_stands-requires : goal.inas_stands-requires
inas_stands-requires c = (search rules, search rules, search field_ways)

pub returns-then-tag-eq-INAS : goal.returns-then-tag-eq-INAS
returns-then-tag-eq-INAS c = search field_ways

pub spas_stand-requires : goal.spas_stand-requires
spas_stand-requires c = (search rules, search rules, search rules, search field_ways)

pub returns-then-tag-eq-SPAS : goal.returns-then-tag-eq-SPAS
returns-then-tag-eq-SPAS c = search field_ways

pub returns : goal.returns
returns c = search field_ways
