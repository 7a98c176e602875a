use Rattle.records.proofs.GrammarLaws.{stored_ways}
use Rattle.records.proofs.grammar.as_stored.Goals as goal

pub returns-in-InDataset : goal.returns-in-InDataset
returns-in-InDataset c = search stored_ways

pub returns-in-InUpdate : goal.returns-in-InUpdate
returns-in-InUpdate c = search stored_ways
