use borrow.Author.Rules.{rules}
use Rattle.listing.proofs.CountLaws.{entries_ways}
use Rattle.listing.proofs.counts.entries.Goals as goal

pub slice_bounds-entries_of-count : goal.slice_bounds-entries_of-count
slice_bounds-entries_of-count c = search (rules, entries_ways)

pub slice_bounds-entries_of-start : goal.slice_bounds-entries_of-start
slice_bounds-entries_of-start c = search (rules, entries_ways)

pub slice_bounds-entries_of-end : goal.slice_bounds-entries_of-end
slice_bounds-entries_of-end c = search (rules, entries_ways)

pub returns : goal.returns
returns c = search (rules, entries_ways)

pub returns-in_default : goal.returns-in_default
returns-in_default c = search (rules, entries_ways)
