use Rattle.records.proofs.GrammarLaws.{tags_ways}
use Rattle.records.proofs.grammar.check_tags.Goals as goal

pub returns-in_default : goal.returns-in_default
returns-in_default c = search tags_ways

pub returns-in_default-kind_of : goal.returns-in_default-kind_of
returns-in_default-kind_of c = search tags_ways

pub returns-then-rank_of-least : goal.returns-then-rank_of-least
returns-then-rank_of-least c = search tags_ways

pub fields_stand-requires : goal.fields_stand-requires
fields_stand-requires c = search tags_ways

pub returns : goal.returns
returns c = search tags_ways
