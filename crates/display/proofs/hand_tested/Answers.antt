-- `hand_tested` meets its contract. Assumes nothing.
use Rattle.display.proofs.PoolLaws.{followed_first, followed_second, tested_first, tested_second}
use Rattle.display.proofs.hand_tested.Goals as goal

pub hand_over-answer-requires : goal.hand_over-answer-requires
hand_over-answer-requires c = tested_second _ _ _ _ c.requires c.if-chart.true

pub returns-then-chart : goal.returns-then-chart
returns-then-chart c = followed_second _ _ _ _ _ _ _ _ c.next_chart.ensures c.if-chart.true _ c.hand_over-answer.ensures

pub hand_over-answer-requires-2 : goal.hand_over-answer-requires-2
hand_over-answer-requires-2 c = tested_first _ _ _ _ c.requires c.if-chart.false

pub returns : goal.returns
returns c = followed_first _ _ _ _ _ _ _ _ c.next_chart-2.ensures c.if-chart.false _ c.hand_over-answer-2.ensures
