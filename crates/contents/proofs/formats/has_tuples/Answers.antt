use Rattle.contents.proofs.FormatLaws.{has_tuples}
use Rattle.contents.proofs.formats.has_tuples.Goals as goal

pub returns : goal.returns
returns c = search has_tuples
