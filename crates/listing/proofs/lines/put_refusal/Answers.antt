use Rattle.listing.proofs.LineLaws.{refusal_wrote}
use Rattle.listing.proofs.lines.put_refusal.Goals as goal

pub returns : goal.returns
returns c = refusal_wrote _ _ _ _ _ _ _ _ _ _ _ _ _ _ _ c.put_text-p1.ensures c.put_spaced-p2.ensures c.put_spaced-p3.ensures c.put_spaced-p4.ensures c.put_text.ensures
