-- `join_inas` meets its contract. Assumes nothing.
use Rattle.std.proofs.lemmas.Result.{err_from_is_err_and}
use Rattle.cells.proofs.ActLaws.{no_total, join_total, act_done, act_fails}
use Rattle.cells.proofs.inas.join_inas.Goals as goal

pub returns-in_err-m : goal.returns-in_err-m
returns-in_err-m c =
    let p = err_from_is_err_and c.from_residual.result c.from_residual.ensures.1 in
    rw (p.1, p.2) (act_fails _ _ _ _ _ _ c.join_cells.ensures _ c.in_err-m.was, no_total _ _ _ _ _)

pub returns : goal.returns
returns c = (act_done _ _ _ _ _ _ c.join_cells.ensures _ c.in_ok-m.was, join_total _ _ _ _ _ c.requires.6 _ _ c.requires.1 _ _ c.join_cells.ensures _ c.in_ok-m.was)
