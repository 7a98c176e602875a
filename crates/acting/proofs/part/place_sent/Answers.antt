-- `place_sent` meets its contract. Assumes nothing.
use mathlib.Core.Path.{◌∙◌}
use Rattle.version.proofs.AreaLaws.{lent}
use Rattle.acting.proofs.PartLaws.{from_start, sent_wide, sent_area, sent_ready, sent_same, sent_err, sent_ok}
use Rattle.acting.proofs.part.place_sent.Goals as goal

pub slice_bounds-place_tuples-count : goal.slice_bounds-place_tuples-count
slice_bounds-place_tuples-count c = from_start 0 200000

pub slice_bounds-place_tuples-start : goal.slice_bounds-place_tuples-start
slice_bounds-place_tuples-start c = from_start 0 200000

pub slice_bounds-place_tuples-end : goal.slice_bounds-place_tuples-end
slice_bounds-place_tuples-end c = sent_wide _ _ _ _ _ c.requires.1

pub place_tuples-requires : goal.place_tuples-requires
place_tuples-requires c = sent_ready _ _ _ _ _ c.requires.1 _ c.requires.0

pub shape_of-work-in_default : goal.shape_of-work-in_default
unfolding lent
shape_of-work-in_default c = sent_same _ _ _ _ _ c.requires.1 _ _ (c.place_tuples.auto.l ∙ sent_area _ _ _ _ _ c.requires.1) _ c.place_tuples.ensures

pub returns-in_default : goal.returns-in_default
unfolding lent
returns-in_default c = sent_err _ _ _ _ _ c.requires.1 _ _ (c.place_tuples.auto.l ∙ sent_area _ _ _ _ _ c.requires.1) _ c.place_tuples.ensures c.in_default.is

pub shape_of-work : goal.shape_of-work
unfolding lent
shape_of-work c = sent_same _ _ _ _ _ c.requires.1 _ _ (c.place_tuples.auto.l ∙ sent_area _ _ _ _ _ c.requires.1) _ c.place_tuples.ensures

pub returns : goal.returns
unfolding lent
returns c = sent_ok _ _ _ _ _ c.requires.1 _ _ (c.place_tuples.auto.l ∙ sent_area _ _ _ _ _ c.requires.1) _ c.place_tuples.ensures _ c.in-Some.is
