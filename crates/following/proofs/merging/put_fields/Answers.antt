use Rattle.following.proofs.MergingLaws.{fields_ways}
use Rattle.following.proofs.merging.put_fields.Goals as goal

pub loop-tag-init : goal.loop-tag-init
loop-tag-init c = search fields_ways

pub put_body-p-requires : goal.put_body-p-requires
put_body-p-requires c = record { bounded = search fields_ways; tag_in_bounds = search fields_ways }

pub loop-tag-preserved : goal.loop-tag-preserved
loop-tag-preserved c = search fields_ways

pub returns : goal.returns
returns c = search fields_ways
