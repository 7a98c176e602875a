use Rattle.following.proofs.NamingLaws.{name_ways}
use Rattle.following.proofs.naming.same_names.Goals as goal

pub text_end-m-requires : goal.text_end-m-requires
text_end-m-requires c = search name_ways

pub text_end-n-requires : goal.text_end-n-requires
text_end-n-requires c = search name_ways

pub slice_bounds-same_bytes-end : goal.slice_bounds-same_bytes-end
slice_bounds-same_bytes-end c = search name_ways

pub slice_bounds-same_bytes-end-2 : goal.slice_bounds-same_bytes-end-2
slice_bounds-same_bytes-end-2 c = search name_ways

pub returns : goal.returns
returns c = search name_ways
