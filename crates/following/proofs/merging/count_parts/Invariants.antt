use Rattle.following.specs.Merging.{Passing}
use Rattle.following.proofs.MergingLaws.{CountAt}
use Rattle.following.proofs.merging.count_parts.Given as goal

abbrev pub invariant-loop-tag : goal.invariant-loop-tag
invariant-loop-tag l = Passing l.old l.ho l.new l.hn × CountAt l.old l.ho l.new l.hn l.tag-index l.fields l.bytes
