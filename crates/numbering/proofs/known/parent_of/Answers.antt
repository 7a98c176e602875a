use Rattle.numbering.proofs.KnownLaws.{parent_known}
use Rattle.numbering.proofs.known.parent_of.Goals as goal

pub returns-then-depth-lt8 : goal.returns-then-depth-lt8
returns-then-depth-lt8 c = parent_known _ _ _ c.requires.1 _ c.if-depth-lt8.true
