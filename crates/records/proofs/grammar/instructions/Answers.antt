use Rattle.records.proofs.GrammarLaws.{instructions_ways}
use Rattle.records.proofs.grammar.instructions.Goals as goal

pub returns-in-InDataset : goal.returns-in-InDataset
returns-in-InDataset c = search instructions_ways

pub returns-in-InUpdate : goal.returns-in-InUpdate
returns-in-InUpdate c = search instructions_ways
