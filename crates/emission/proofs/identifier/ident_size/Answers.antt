use Rattle.emission.proofs.IdentLaws.{size_coded, size_plain}
use Rattle.emission.proofs.identifier.ident_size.Goals as goal

pub returns-then-has_code : goal.returns-then-has_code
returns-then-has_code c = size_coded _ _ c.has_code.ensures c.if-has_code.true

pub returns-else-has_code : goal.returns-else-has_code
returns-else-has_code c = size_plain _ _ c.has_code.ensures c.if-has_code.false
