-- `dsid_follows` meets its contract. Assumes nothing.
use Rattle.cable.proofs.NamingLaws.{dsid_ways}
use Rattle.cable.proofs.successor.dsid_follows.Goals as goal

pub text_end-e-requires : goal.text_end-e-requires
text_end-e-requires c = search dsid_ways

pub slice_bounds-same_bytes-count : goal.slice_bounds-same_bytes-count
slice_bounds-same_bytes-count c = search dsid_ways

pub slice_bounds-same_bytes-start : goal.slice_bounds-same_bytes-start
slice_bounds-same_bytes-start c = search dsid_ways

pub slice_bounds-same_bytes-end : goal.slice_bounds-same_bytes-end
slice_bounds-same_bytes-end c = search dsid_ways

pub slice_bounds-same_bytes-count-2 : goal.slice_bounds-same_bytes-count-2
slice_bounds-same_bytes-count-2 c = search dsid_ways

pub slice_bounds-same_bytes-start-2 : goal.slice_bounds-same_bytes-start-2
slice_bounds-same_bytes-start-2 c = search dsid_ways

pub slice_bounds-same_bytes-end-2 : goal.slice_bounds-same_bytes-end-2
slice_bounds-same_bytes-end-2 c = search dsid_ways

pub returns-then-not-same_bytes : goal.returns-then-not-same_bytes
returns-then-not-same_bytes c = search dsid_ways

pub returns-then-number_in-le16 : goal.returns-then-number_in-le16
returns-then-number_in-le16 c = search dsid_ways

pub returns : goal.returns
returns c = search dsid_ways
