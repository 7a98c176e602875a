-- `act_attr` meets its contract. Assumes nothing.
use mathlib.Core.Path.{◌∙◌}
use Rattle.std.proofs.lemmas.Result.{err_from_is_err_and}
use Rattle.version.proofs.AreaLaws.{lent}
use Rattle.acting.proofs.WideLaws.{wide_attr, attr_area}
use Rattle.acting.proofs.PartLaws.{from_start, attr_wide, attr_same, attr_ready, attr_sizes, attr_err, attr_ok}
use Rattle.acting.proofs.part.act_attr.Goals as goal

pub slice_bounds-edit_attr-count : goal.slice_bounds-edit_attr-count
slice_bounds-edit_attr-count c = from_start 0 200000

pub slice_bounds-edit_attr-start : goal.slice_bounds-edit_attr-start
slice_bounds-edit_attr-start c = from_start 0 200000

pub slice_bounds-edit_attr-end : goal.slice_bounds-edit_attr-end
slice_bounds-edit_attr-end c = wide_attr _ _ _ _ _ _ c.requires.0

pub edit_attr-requires : goal.edit_attr-requires
edit_attr-requires c = attr_ready _ _ _ _ _ c.requires.0

pub list_of-requires : goal.list_of-requires
unfolding lent
list_of-requires c = attr_wide _ _ _ _ _ c.requires.0 _ (c.edit_attr.auto.w ∙ attr_area _ _ _ _ _ _ c.requires.0) _ c.edit_attr.ensures

pub size-attrbytes-requires : goal.size-attrbytes-requires
unfolding lent
size-attrbytes-requires c = attr_sizes _ _ _ _ _ c.requires.0 _ (c.edit_attr.auto.w ∙ attr_area _ _ _ _ _ _ c.requires.0) _ c.edit_attr.ensures _ c.in_ok-attr.was _ _ c.list_of.ensures c.requires.1

pub shape_of-work-in_err-attr : goal.shape_of-work-in_err-attr
unfolding lent
shape_of-work-in_err-attr c = attr_same _ _ _ _ _ c.requires.0 _ (c.edit_attr.auto.w ∙ attr_area _ _ _ _ _ _ c.requires.0) _ c.edit_attr.ensures

pub returns-in_err-attr : goal.returns-in_err-attr
unfolding lent
returns-in_err-attr c =
    let p = err_from_is_err_and c.from_residual.result c.from_residual.ensures.1 in
    rw (p.1, p.2) (λ new. attr_err _ _ _ _ _ c.requires.0 _ (c.edit_attr.auto.w ∙ attr_area _ _ _ _ _ _ c.requires.0) _ c.edit_attr.ensures _ c.in_err-attr.was _ new)

pub shape_of-work : goal.shape_of-work
unfolding lent
shape_of-work c = attr_same _ _ _ _ _ c.requires.0 _ (c.edit_attr.auto.w ∙ attr_area _ _ _ _ _ _ c.requires.0) _ c.edit_attr.ensures

pub returns : goal.returns
unfolding lent
returns c = attr_ok _ _ _ _ _ c.requires.0 _ (c.edit_attr.auto.w ∙ attr_area _ _ _ _ _ _ c.requires.0) _ c.edit_attr.ensures _ c.in_ok-attr.was _ _ c.list_of.ensures _ c.size-attrbytes.ensures
