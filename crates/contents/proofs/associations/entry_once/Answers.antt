use Rattle.contents.proofs.OnceLaws.{entry_ways}
use borrow.Author.Rules.{rules}
use Rattle.contents.proofs.associations.entry_once.Goals as goal

pub returns-then-tag-ne-SPAS : goal.returns-then-tag-ne-SPAS
returns-then-tag-ne-SPAS c = search entry_ways

pub slice_bounds-field_once-count : goal.slice_bounds-field_once-count
slice_bounds-field_once-count c = search entry_ways

pub slice_bounds-field_once-start : goal.slice_bounds-field_once-start
slice_bounds-field_once-start c = search entry_ways

pub slice_bounds-field_once-end : goal.slice_bounds-field_once-end
slice_bounds-field_once-end c = search entry_ways

pub field_once-requires : goal.field_once-requires
field_once-requires c = (search rules, search rules, search entry_ways, search entry_ways, search rules)

pub returns-in-Some : goal.returns-in-Some
returns-in-Some c = search entry_ways

pub returns-in-None : goal.returns-in-None
returns-in-None c = search entry_ways
