use Rattle.contents.proofs.CodeLaws.{tuple_ways}
use Rattle.contents.proofs.codes.tuple.Goals as goal

pub tuple_code-code-requires : goal.tuple_code-code-requires
tuple_code-code-requires c = search tuple_ways

pub returns : goal.returns
returns c = search tuple_ways
