-- `act_inas` meets its contract. Assumes nothing.
use mathlib.Core.Path.{◌∙◌}
use Rattle.std.proofs.lemmas.Result.{err_from_is_err_and}
use Rattle.version.proofs.AreaLaws.{lent}
use Rattle.acting.proofs.WideLaws.{wide_inas, inas_area_lem}
use Rattle.acting.proofs.PartLaws.{from_start, inas_same, inas_ready, inas_err, inas_ok}
use Rattle.acting.proofs.part.act_inas.Goals as goal

pub slice_bounds-act_inas-count : goal.slice_bounds-act_inas-count
slice_bounds-act_inas-count c = from_start 200000 92000

pub slice_bounds-act_inas-start : goal.slice_bounds-act_inas-start
slice_bounds-act_inas-start c = from_start 200000 92000

pub slice_bounds-act_inas-end : goal.slice_bounds-act_inas-end
slice_bounds-act_inas-end c = wide_inas _ _ _ _ _ _ c.requires.0

pub act_inas-requires : goal.act_inas-requires
act_inas-requires c = inas_ready _ _ _ _ _ _ c.requires.0 c.requires.2

pub shape_of-work-in_err-inas : goal.shape_of-work-in_err-inas
unfolding lent
shape_of-work-in_err-inas c = inas_same _ _ _ _ _ _ c.requires.0 c.requires.1 _ (c.act_inas.auto.c ∙ inas_area_lem _ _ _ _ _ _ c.requires.0) _ c.act_inas.ensures

pub returns-in_err-inas : goal.returns-in_err-inas
unfolding lent
returns-in_err-inas c =
    let p = err_from_is_err_and c.from_residual.result c.from_residual.ensures.1 in
    rw (p.1, p.2) (inas_err _ _ _ _ _ _ c.requires.0 c.requires.1 _ (c.act_inas.auto.c ∙ inas_area_lem _ _ _ _ _ _ c.requires.0) _ c.act_inas.ensures _ c.in_err-inas.was)

pub shape_of-work : goal.shape_of-work
unfolding lent
shape_of-work c = inas_same _ _ _ _ _ _ c.requires.0 c.requires.1 _ (c.act_inas.auto.c ∙ inas_area_lem _ _ _ _ _ _ c.requires.0) _ c.act_inas.ensures

pub returns : goal.returns
unfolding lent
returns c = inas_ok _ _ _ _ _ _ c.requires.0 c.requires.1 _ (c.act_inas.auto.c ∙ inas_area_lem _ _ _ _ _ _ c.requires.0) _ c.act_inas.ensures _ c.in_ok-inas.was
