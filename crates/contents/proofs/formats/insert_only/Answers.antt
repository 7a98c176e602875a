use Rattle.contents.proofs.FormatLaws.{insert_only_ways, only_not}
use Rattle.contents.proofs.formats.insert_only.Goals as goal

pub returns-in-InDataset : goal.returns-in-InDataset
returns-in-InDataset c = search insert_only_ways

pub returns-in_default : goal.returns-in_default
returns-in_default c = only_not _ c.in_default.not-InDataset
