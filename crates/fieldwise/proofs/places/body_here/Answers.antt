use Rattle.fieldwise.proofs.ReaderLaws.{body_ways}
use Rattle.fieldwise.proofs.places.body_here.Goals as goal

pub slice_bounds-result-count : goal.slice_bounds-result-count
slice_bounds-result-count c = search body_ways

pub slice_bounds-result-start : goal.slice_bounds-result-start
slice_bounds-result-start c = search body_ways

pub slice_bounds-result-end : goal.slice_bounds-result-end
slice_bounds-result-end c = search body_ways

pub returns-in-Some : goal.returns-in-Some
returns-in-Some c = search body_ways

pub returns-in-None : goal.returns-in-None
returns-in-None c = search body_ways
