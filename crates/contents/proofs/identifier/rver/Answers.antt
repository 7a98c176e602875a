use Rattle.contents.proofs.ReaderLaws.{reader_ways}
use Rattle.contents.proofs.identifier.rver.Goals as goal

pub le16-requires : goal.le16-requires
le16-requires c = search reader_ways

pub returns : goal.returns
returns c = search reader_ways
