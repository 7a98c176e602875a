use Rattle.listing.proofs.LineLaws.{line_wrote}
use Rattle.listing.proofs.lines.put_line.Goals as goal

pub returns : goal.returns
returns c = line_wrote _ _ _ _ _ _ _ _ _ _ _ _ _ _ _ _ _ _ _ _ _ _ c.put_number-p1.ensures c.put_tag-p2.ensures c.put_spaced-p3.ensures c.put_spaced-p4.ensures c.put_spaced-p5.ensures c.put_spaced-p6.ensures c.put_text.ensures
