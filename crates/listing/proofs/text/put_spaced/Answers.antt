use Rattle.listing.proofs.TextLaws.{spaced_wrote}
use Rattle.listing.proofs.text.put_spaced.Goals as goal

pub returns : goal.returns
returns c = spaced_wrote _ _ _ _ _ _ _ c.put_text-p.ensures c.put_number.ensures
