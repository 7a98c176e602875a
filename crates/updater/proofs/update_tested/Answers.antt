use Rattle.updater.proofs.UpdateLaws.{ended_in, left_refused, left_done}
use Rattle.updater.proofs.update_tested.Goals as goal

pub returns-then-a-ne0 : goal.returns-then-a-ne0
returns-then-a-ne0 c = let b = c.build-a in left_refused _ _ _ _ _ _ b.ensures b.auto.out b.new.work b.auto.work _ c.zero.ensures c.if-a-ne0.true _ c.zero-then-a-ne0.ensures

pub zero_from-requires : goal.zero_from-requires
zero_from-requires c = ended_in _ _ _ _ _ _ c.build-a.ensures c.if-a-ne0.false

pub returns : goal.returns
returns c = let b = c.build-a in left_done _ _ _ _ _ _ b.ensures b.auto.out b.new.work b.auto.work _ c.zero.ensures c.if-a-ne0.false _ c.zero_from.ensures
