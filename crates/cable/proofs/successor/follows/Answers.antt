-- `follows` meets its contract. Assumes nothing.
use Rattle.cable.proofs.SuccessorLaws.{follows_ways}
use Rattle.cable.proofs.successor.follows.Goals as goal

pub returns-then-not-may_follow : goal.returns-then-not-may_follow
returns-then-not-may_follow c = search follows_ways

pub slice_bounds-dsid_follows-count : goal.slice_bounds-dsid_follows-count
slice_bounds-dsid_follows-count c = search follows_ways

pub slice_bounds-dsid_follows-start : goal.slice_bounds-dsid_follows-start
slice_bounds-dsid_follows-start c = search follows_ways

pub slice_bounds-dsid_follows-end : goal.slice_bounds-dsid_follows-end
slice_bounds-dsid_follows-end c = search follows_ways

pub dsid_follows-requires : goal.dsid_follows-requires
dsid_follows-requires c = search follows_ways

pub returns-in-Ok : goal.returns-in-Ok
returns-in-Ok c = search follows_ways

pub returns-in-Err : goal.returns-in-Err
returns-in-Err c = search follows_ways
