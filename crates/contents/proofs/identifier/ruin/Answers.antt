use Rattle.contents.proofs.ReaderLaws.{reader_ways}
use Rattle.contents.proofs.identifier.ruin.Goals as goal

pub le8-requires : goal.le8-requires
le8-requires c = search reader_ways

pub returns : goal.returns
returns c = search reader_ways
