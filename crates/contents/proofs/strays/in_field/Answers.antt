use Rattle.contents.proofs.StrayLaws.{field_rises}
use Rattle.contents.proofs.strays.in_field.Goals as goal

pub returns-then-informed : goal.returns-then-informed
returns-then-informed c = search field_rises

pub returns-then-tag-eq-INAS : goal.returns-then-tag-eq-INAS
returns-then-tag-eq-INAS c = search field_rises

pub returns-then-tag-ne-SPAS : goal.returns-then-tag-ne-SPAS
returns-then-tag-ne-SPAS c = search field_rises

pub slice_bounds-in_spas-count : goal.slice_bounds-in_spas-count
slice_bounds-in_spas-count c = search field_rises

pub slice_bounds-in_spas-start : goal.slice_bounds-in_spas-start
slice_bounds-in_spas-start c = search field_rises

pub slice_bounds-in_spas-end : goal.slice_bounds-in_spas-end
slice_bounds-in_spas-end c = search field_rises

pub in_spas-requires : goal.in_spas-requires
in_spas-requires c = search field_rises

pub returns-in-Some : goal.returns-in-Some
returns-in-Some c = search field_rises

pub returns-in-None : goal.returns-in-None
returns-in-None c = search field_rises
