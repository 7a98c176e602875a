use Rattle.following.specs.Merging.{Passing}
use Rattle.following.proofs.MergingLaws.{FieldsAt}
use Rattle.following.proofs.merging.put_fields.Given as goal

abbrev pub invariant-loop-tag : goal.invariant-loop-tag
invariant-loop-tag l = Passing l.old l.ho l.new l.hn × FieldsAt l.old l.ho l.new l.hn l.initial.out l.at l.out l.tag-index l.p
