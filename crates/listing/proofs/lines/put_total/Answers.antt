use Rattle.listing.proofs.LineLaws.{total_wrote}
use Rattle.listing.proofs.lines.put_total.Goals as goal

pub returns : goal.returns
returns c = total_wrote _ _ _ _ _ _ _ _ _ c.put_text-p1.ensures c.put_spaced-p2.ensures c.put_text.ensures
