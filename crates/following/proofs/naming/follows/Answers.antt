use Rattle.following.proofs.NamingLaws.{follows_ways}
use Rattle.following.proofs.naming.follows.Goals as goal

pub returns-in_default : goal.returns-in_default
returns-in_default c = search follows_ways

pub returns-in_default-place_at : goal.returns-in_default-place_at
returns-in_default-place_at c = search follows_ways

pub slice_bounds-dsid_follows-count : goal.slice_bounds-dsid_follows-count
slice_bounds-dsid_follows-count c = search follows_ways

pub slice_bounds-dsid_follows-start : goal.slice_bounds-dsid_follows-start
slice_bounds-dsid_follows-start c = search follows_ways

pub slice_bounds-dsid_follows-end : goal.slice_bounds-dsid_follows-end
slice_bounds-dsid_follows-end c = search follows_ways

pub slice_bounds-dsid_follows-count-2 : goal.slice_bounds-dsid_follows-count-2
slice_bounds-dsid_follows-count-2 c = search follows_ways

pub slice_bounds-dsid_follows-start-2 : goal.slice_bounds-dsid_follows-start-2
slice_bounds-dsid_follows-start-2 c = search follows_ways

pub slice_bounds-dsid_follows-end-2 : goal.slice_bounds-dsid_follows-end-2
slice_bounds-dsid_follows-end-2 c = search follows_ways

pub dsid_follows-requires : goal.dsid_follows-requires
dsid_follows-requires c = search follows_ways

pub returns : goal.returns
returns c = search follows_ways
