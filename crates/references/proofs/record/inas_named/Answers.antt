use Rattle.references.proofs.RecordLaws.{inas_ways}
use borrow.Author.Rules.{rules}
use Rattle.references.proofs.record.inas_named.Goals as goal

pub returns-then-exists : goal.returns-then-exists
returns-then-exists c = (search inas_ways, search rules)

pub returns : goal.returns
returns c = (search inas_ways, search rules)
