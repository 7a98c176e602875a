use Rattle.fields.proofs.SizeLaws.{fixed_short, fixed_there}
use Rattle.fields.proofs.subfield.fixed_text.Goals as goal

pub returns-then-e-at : goal.returns-then-e-at
returns-then-e-at c = search fixed_short

pub returns : goal.returns
returns c = search fixed_there
