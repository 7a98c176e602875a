-- `tell` meets its contract. Assumes nothing.
use Rattle.cable.proofs.TellingLaws.{tell_ways}
use Rattle.cable.proofs.telling.tell.Goals as goal

pub slice_bounds-tell_dsid-count : goal.slice_bounds-tell_dsid-count
slice_bounds-tell_dsid-count c = search tell_ways

pub slice_bounds-tell_dsid-start : goal.slice_bounds-tell_dsid-start
slice_bounds-tell_dsid-start c = search tell_ways

pub slice_bounds-tell_dsid-end : goal.slice_bounds-tell_dsid-end
slice_bounds-tell_dsid-end c = search tell_ways

pub tell_dsid-requires : goal.tell_dsid-requires
tell_dsid-requires c = search tell_ways

pub returns-in-Ok : goal.returns-in-Ok
returns-in-Ok c = search tell_ways

pub returns-in-Err : goal.returns-in-Err
returns-in-Err c = search tell_ways
