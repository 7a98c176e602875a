use Rattle.fields.proofs.SizeLaws.{num_short, num_there}
use Rattle.fields.specs.Valid.{allows}
use Rattle.fields.proofs.subfield.ranged16.Goals as goal

pub returns-then-b-at-lt2 : goal.returns-then-b-at-lt2
returns-then-b-at-lt2 c = search num_short

pub returns : goal.returns
unfolding allows
returns c = search num_there
