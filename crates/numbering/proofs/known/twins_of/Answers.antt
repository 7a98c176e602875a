use Rattle.numbering.proofs.KnownLaws.{twins_known}
use Rattle.numbering.proofs.known.twins_of.Goals as goal

pub returns-then-known-depth : goal.returns-then-known-depth
returns-then-known-depth c = twins_known _ _ _ c.requires.1 _ c.if-depth-lt8.true _ c.if-known-depth.true
