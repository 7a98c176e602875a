use Rattle.fields.proofs.SizeLaws.{num_short, raw_there}
use Rattle.fields.proofs.subfield.any_bytes.Goals as goal

pub returns-then-b-at : goal.returns-then-b-at
returns-then-b-at c = search num_short

pub returns : goal.returns
returns c = search raw_there
