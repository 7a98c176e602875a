use Rattle.following.proofs.MergingLaws.{count_ways}
use Rattle.following.proofs.merging.count_parts.Goals as goal

pub loop-tag-init : goal.loop-tag-init
loop-tag-init c = search count_ways

pub part_size-n-requires : goal.part_size-n-requires
part_size-n-requires c = search count_ways

pub one_if-fields-requires : goal.one_if-fields-requires
one_if-fields-requires c = search count_ways

pub overflow_add-fields : goal.overflow_add-fields
overflow_add-fields c = search count_ways

pub overflow_add-bytes : goal.overflow_add-bytes
overflow_add-bytes c = search count_ways

pub loop-tag-preserved : goal.loop-tag-preserved
loop-tag-preserved c = search count_ways

pub returns : goal.returns
returns c = search count_ways
