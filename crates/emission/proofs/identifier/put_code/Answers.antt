use Rattle.emission.proofs.IdentLaws.{code_ways}
use Rattle.emission.proofs.identifier.put_code.Goals as goal

pub put_little_endian-requires : goal.put_little_endian-requires
put_little_endian-requires c = search code_ways

pub returns-then-has_code : goal.returns-then-has_code
returns-then-has_code c = search code_ways

pub returns-else-has_code : goal.returns-else-has_code
returns-else-has_code c = search code_ways
