-- `may_follow` meets its contract. Assumes nothing.
use Rattle.cable.proofs.SuccessorLaws.{may_ways}
use Rattle.cable.proofs.successor.may_follow.Goals as goal

pub slice_bounds-ends_next-count : goal.slice_bounds-ends_next-count
slice_bounds-ends_next-count c = search may_ways

pub slice_bounds-ends_next-start : goal.slice_bounds-ends_next-start
slice_bounds-ends_next-start c = search may_ways

pub slice_bounds-ends_next-end : goal.slice_bounds-ends_next-end
slice_bounds-ends_next-end c = search may_ways

pub returns-in-Some : goal.returns-in-Some
returns-in-Some c = search may_ways

pub returns-in-None : goal.returns-in-None
returns-in-None c = search may_ways
