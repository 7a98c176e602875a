use Rattle.listing.proofs.TextLaws.{number_wrote}
use Rattle.listing.proofs.TextLaws.{number_ways}
use Rattle.listing.proofs.text.put_number.Goals as goal

pub slice_bounds-put_text-end : goal.slice_bounds-put_text-end
slice_bounds-put_text-end c = search number_ways

pub put_text-requires : goal.put_text-requires
put_text-requires c = search number_ways

pub returns : goal.returns
returns c = number_wrote _ _ _ _ c.digits_of-w.ensures.0 c.digits_of-w.ensures.1 c.put_decimal.ensures.1 _ _ _ _ c.put_text.ensures
