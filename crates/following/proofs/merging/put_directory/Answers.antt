use Rattle.following.proofs.MergingLaws.{directory_ways}
use Rattle.following.proofs.merging.put_directory.Goals as goal

pub loop-tag-init : goal.loop-tag-init
loop-tag-init c = search directory_ways

pub part_size-n-requires : goal.part_size-n-requires
part_size-n-requires c = search directory_ways

pub put_entry_if-p-requires : goal.put_entry_if-p-requires
put_entry_if-p-requires c = search directory_ways

pub overflow_add-pos : goal.overflow_add-pos
overflow_add-pos c = search directory_ways

pub loop-tag-preserved : goal.loop-tag-preserved
loop-tag-preserved c = search directory_ways

pub returns : goal.returns
returns c = search directory_ways
