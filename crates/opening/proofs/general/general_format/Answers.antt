use Rattle.opening.proofs.GeneralLaws.{format_ways}
use Rattle.opening.proofs.general.general_format.Goals as goal

pub returns-in-InDataset : goal.returns-in-InDataset
returns-in-InDataset c = search format_ways

pub returns-in-InUpdate : goal.returns-in-InUpdate
returns-in-InUpdate c = search format_ways
