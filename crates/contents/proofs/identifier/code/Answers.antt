use Rattle.contents.proofs.ReaderLaws.{reader_ways}
use Rattle.contents.proofs.identifier.code.Goals as goal

pub le16-requires : goal.le16-requires
le16-requires c = search reader_ways

pub returns-then-is_coded : goal.returns-then-is_coded
returns-then-is_coded c = search reader_ways

pub returns-else-is_coded : goal.returns-else-is_coded
returns-else-is_coded c = search reader_ways
