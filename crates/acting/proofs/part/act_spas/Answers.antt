-- `act_spas` meets its contract. Assumes nothing.
use mathlib.Core.Path.{◌∙◌}
use Rattle.std.proofs.lemmas.Result.{err_from_is_err_and}
use Rattle.version.proofs.AreaLaws.{lent}
use Rattle.acting.proofs.WideLaws.{wide_spas, spas_area_lem}
use Rattle.acting.proofs.PartLaws.{from_start, spas_same, spas_ready, spas_err, spas_ok}
use Rattle.acting.proofs.part.act_spas.Goals as goal

pub slice_bounds-act_spas-count : goal.slice_bounds-act_spas-count
slice_bounds-act_spas-count c = from_start 292000 94000

pub slice_bounds-act_spas-start : goal.slice_bounds-act_spas-start
slice_bounds-act_spas-start c = from_start 292000 94000

pub slice_bounds-act_spas-end : goal.slice_bounds-act_spas-end
slice_bounds-act_spas-end c = wide_spas _ _ _ _ _ _ c.requires.0

pub act_spas-requires : goal.act_spas-requires
act_spas-requires c = spas_ready _ _ _ _ _ _ c.requires.0 c.requires.3

pub shape_of-work-in_err-spas : goal.shape_of-work-in_err-spas
unfolding lent
shape_of-work-in_err-spas c = spas_same _ _ _ _ _ _ c.requires.0 c.requires.1 c.requires.2 _ (c.act_spas.auto.c ∙ spas_area_lem _ _ _ _ _ _ c.requires.0) _ c.act_spas.ensures

pub returns-in_err-spas : goal.returns-in_err-spas
unfolding lent
returns-in_err-spas c =
    let p = err_from_is_err_and c.from_residual.result c.from_residual.ensures.1 in
    rw (p.1, p.2) (spas_err _ _ _ _ _ _ c.requires.0 c.requires.1 c.requires.2 _ (c.act_spas.auto.c ∙ spas_area_lem _ _ _ _ _ _ c.requires.0) _ c.act_spas.ensures _ c.in_err-spas.was)

pub shape_of-work : goal.shape_of-work
unfolding lent
shape_of-work c = spas_same _ _ _ _ _ _ c.requires.0 c.requires.1 c.requires.2 _ (c.act_spas.auto.c ∙ spas_area_lem _ _ _ _ _ _ c.requires.0) _ c.act_spas.ensures

pub returns : goal.returns
unfolding lent
returns c = spas_ok _ _ _ _ _ _ c.requires.0 c.requires.1 c.requires.2 _ (c.act_spas.auto.c ∙ spas_area_lem _ _ _ _ _ _ c.requires.0) _ c.act_spas.ensures _ c.in_ok-spas.was
