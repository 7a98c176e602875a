use Rattle.fields.proofs.SizeLaws.{num_short, num_there}
use Rattle.fields.specs.Valid.{allows}
use Rattle.fields.proofs.subfield.ranged8.Goals as goal

pub returns-then-b-at-lt1 : goal.returns-then-b-at-lt1
returns-then-b-at-lt1 c = search num_short

pub returns : goal.returns
unfolding allows
returns c = search num_there
