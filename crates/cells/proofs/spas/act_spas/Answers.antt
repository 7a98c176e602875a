-- `act_spas` meets its contract. Assumes nothing.
use Rattle.cells.proofs.SpasLaws.{spas_refused, spas_turn, spas_turns}
use Rattle.std.proofs.lemmas.Result.{err_from_is_err_and}
use Rattle.cells.proofs.spas.act_spas.Goals as goal

pub loop-p-init : goal.loop-p-init
loop-p-init c = search spas_turns

pub act_tuple-requires : goal.act_tuple-requires
act_tuple-requires c = (search spas_turns, search spas_turns, search spas_turns, search spas_turns, search spas_turns)

pub overflow_add-p : goal.overflow_add-p
overflow_add-p c = search spas_turns

pub overflow_add-j : goal.overflow_add-j
overflow_add-j c = search spas_turns

pub loop-p-smaller : goal.loop-p-smaller
loop-p-smaller c = search spas_turns

pub loop-p-preserved : goal.loop-p-preserved
loop-p-preserved c = spas_turn _ _ _ _ _ _ _ _ _ _ c.loop-p.invariant c.loop-p-test.true c.requires.1 _ c.act_tuple.auto.c _ c.act_tuple.ensures _ c.in_ok-m.was

pub returns-in_err-m : goal.returns-in_err-m
returns-in_err-m c =
    let p = err_from_is_err_and c.from_residual.result c.from_residual.ensures.1 in
    rw (p.1, p.2) (spas_refused _ _ _ _ _ _ _ _ _ _ c.loop-p.invariant c.loop-p-test.true c.requires.1 _ _ c.act_tuple.ensures _ c.in_err-m.was)

pub shape_of-c : goal.shape_of-c
shape_of-c c = search spas_turns

pub returns : goal.returns
returns c = search spas_turns
