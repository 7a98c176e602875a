use Rattle.contents.proofs.ReaderLaws.{reader_ways}
use Rattle.contents.proofs.identifier.rcid.Goals as goal

pub le32-requires : goal.le32-requires
le32-requires c = search reader_ways

pub returns : goal.returns
returns c = search reader_ways
