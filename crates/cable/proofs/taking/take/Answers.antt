-- `take` meets its contract. Assumes nothing.
use Rattle.cable.proofs.TakenLaws.{six_there, taken_right, taken_first, taken_second}
use native.Mathlib.Omega.{arith}
use Rattle.cable.proofs.taking.take.Goals as goal

pub slice_bounds-hand-count : goal.slice_bounds-hand-count
slice_bounds-hand-count c = search (six_there, arith)

pub slice_bounds-hand-start : goal.slice_bounds-hand-start
slice_bounds-hand-start c = search (six_there, arith)

pub slice_bounds-hand-end : goal.slice_bounds-hand-end
slice_bounds-hand-end c = search (six_there, arith)

pub returns-then-carries_file : goal.returns-then-carries_file
returns-then-carries_file c = taken_right _ _ c.carries_file.ensures _ _ _ c.if-carries_file.true _ _ _ _ _ c.hand.ensures

pub returns-then-chart : goal.returns-then-chart
returns-then-chart c = rw c.refused-answer.ensures (taken_second _ _ c.carries_file.ensures _ _ _ _ c.if-carries_file.false _ c.zero.ensures c.if-chart.true _ c.zero-then-chart.ensures)

pub returns : goal.returns
returns c = rw c.refused-answer.ensures (taken_first _ _ c.carries_file.ensures _ _ _ _ c.if-carries_file.false _ c.zero.ensures c.if-chart.false _ c.zero-2.ensures)
