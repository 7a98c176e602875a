use Rattle.references.proofs.RecordLaws.{entry_ways}
use borrow.Author.Rules.{rules}
use Rattle.references.proofs.record.entry_named.Goals as goal

pub tag_at-tag-requires : goal.tag_at-tag-requires
tag_at-tag-requires c = search entry_ways

pub returns-then-tag-ne-SPAS : goal.returns-then-tag-ne-SPAS
returns-then-tag-ne-SPAS c = (search entry_ways, search rules)

pub slice_bounds-b-count : goal.slice_bounds-b-count
slice_bounds-b-count c = search entry_ways

pub slice_bounds-b-start : goal.slice_bounds-b-start
slice_bounds-b-start c = search entry_ways

pub slice_bounds-b-end : goal.slice_bounds-b-end
slice_bounds-b-end c = search entry_ways

pub field_named-requires : goal.field_named-requires
field_named-requires c = (search rules, search entry_ways, search entry_ways)

pub returns : goal.returns
returns c = (search entry_ways, search rules)

pub returns-in_default : goal.returns-in_default
returns-in_default c = (search (rules, entry_ways), search rules)
