use Rattle.listing_program.proofs.ProgramLaws.{text_fits, text_long}
use Rattle.listing_program.proofs.main.Goals as goal

pub slice_bounds-out-end : goal.slice_bounds-out-end
slice_bounds-out-end c = text_fits _ _ _ _ c.list-m.ensures

pub slice_bounds-write_all-end : goal.slice_bounds-write_all-end
slice_bounds-write_all-end c = text_long _ _ _ _ c.list-m.ensures
