use Rattle.updater.proofs.EntryLaws.{built_15, built_14, built_14_update}
use Rattle.updater.proofs.StageLaws.{unread, is_legible}
use Rattle.updater.proofs.build.Goals as goal

pub returns-then-work-lt400000 : goal.returns-then-work-lt400000
returns-then-work-lt400000 c = search built_15

pub returns-then-f-gt16777216 : goal.returns-then-f-gt16777216
returns-then-f-gt16777216 c = search built_14

pub returns-then-u-gt16777216 : goal.returns-then-u-gt16777216
returns-then-u-gt16777216 c = search built_14_update

pub proceed-requires : goal.proceed-requires
proceed-requires c = (c.requires c.if-tested.true, c.if-u-gt16777216.false, c.if-work-lt400000.false)

pub returns-then-a-ne0 : goal.returns-then-a-ne0
returns-then-a-ne0 c = search unread

pub prepare-requires : goal.prepare-requires
prepare-requires c = search is_legible
