-- `act_cocc` meets its contract. Assumes nothing.
use Rattle.acting.proofs.PartLaws.{from_start, sending_word, sending_inside, cocc_byte, cocc_index, cocc_count, cocc_first, cocc_second, cocc_third, cocc_placing, place_is}
use Rattle.acting.proofs.part.act_cocc.Goals as goal

pub slice_bounds-b-count : goal.slice_bounds-b-count
slice_bounds-b-count c = c.requires.0.runs

pub slice_bounds-b-start : goal.slice_bounds-b-start
slice_bounds-b-start c = c.requires.0.runs

pub slice_bounds-b-end : goal.slice_bounds-b-end
slice_bounds-b-end c = c.requires.0.inside

pub le8-instruction-requires : goal.le8-instruction-requires
le8-instruction-requires c = cocc_first _ _ _ _ _ c.requires.0

pub overflow_cast-instruction : goal.overflow_cast-instruction
overflow_cast-instruction c = record { fits = cocc_byte _ _ _ _ _ c.requires.0 _ c.le8-instruction.ensures }

pub le16-index-requires : goal.le16-index-requires
le16-index-requires c = cocc_second _ _ _ _ _ c.requires.0

pub overflow_cast-index : goal.overflow_cast-index
overflow_cast-index c = record { fits = (cocc_index _ _ _ _ _ c.requires.0 _ c.le16-index.ensures).2 }

pub le16-count-requires : goal.le16-count-requires
le16-count-requires c = cocc_third _ _ _ _ _ c.requires.0

pub overflow_cast-count : goal.overflow_cast-count
overflow_cast-count c = record { fits = (cocc_count _ _ _ _ _ c.requires.0 _ c.le16-count.ensures).1 }

pub overflow_add-end : goal.overflow_add-end
overflow_add-end c = record { fits = sending_word _ _ _ _ c.requires.1 c.requires.0.small }

pub slice_bounds-place_sent-count : goal.slice_bounds-place_sent-count
slice_bounds-place_sent-count c = from_start _ _

pub slice_bounds-place_sent-start : goal.slice_bounds-place_sent-start
slice_bounds-place_sent-start c = from_start _ _

pub slice_bounds-place_sent-end : goal.slice_bounds-place_sent-end
slice_bounds-place_sent-end c = sending_inside _ _ _ _ c.requires.1

pub place_sent-requires : goal.place_sent-requires
place_sent-requires c = cocc_placing _ _ _ _ _ c.requires.0 _ _ _ c.le8-instruction.ensures c.le16-index.ensures c.le16-count.ensures _ _ _ c.requires.1 c.requires.2

pub shape_of-work : goal.shape_of-work
shape_of-work c = c.place_sent.auto.work

pub returns : goal.returns
returns c = λ d. c.place_sent.ensures d _ _ (place_is _ _ _ _ _ c.requires.0 _ _ _ c.le8-instruction.ensures c.le16-index.ensures c.le16-count.ensures)
