use Rattle.book.proofs.FirstLaws.{first_key_ways}
use Rattle.book.proofs.first.first_key.Goals as goal

pub slice_bounds-key_at-count : goal.slice_bounds-key_at-count
slice_bounds-key_at-count c = search first_key_ways

pub slice_bounds-key_at-start : goal.slice_bounds-key_at-start
slice_bounds-key_at-start c = search first_key_ways

pub slice_bounds-key_at-end : goal.slice_bounds-key_at-end
slice_bounds-key_at-end c = search first_key_ways

pub returns-in-Some : goal.returns-in-Some
returns-in-Some c = search first_key_ways

pub returns-in-None : goal.returns-in-None
returns-in-None c = search first_key_ways
