-- `month` meets its contract. Assumes nothing.
use Rattle.month.proofs.TurnLaws.{left_second, left_first}
use Rattle.month.proofs.month.Goals as goal

pub returns-then-m : goal.returns-then-m
returns-then-m c = let u = c.run-m in left_second _ _ _ _ _ _ _ _ u.new.work u.ensures _ c.zero.ensures u.auto.work u.auto.first c.if-m.true _ c.zero-then-m.ensures

pub returns : goal.returns
returns c = let u = c.run-m in left_first _ _ _ _ _ _ _ _ u.new.work u.ensures _ c.zero.ensures u.auto.work u.auto.second c.if-m.false _ c.zero-2.ensures
