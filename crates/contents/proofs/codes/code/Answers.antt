use Rattle.contents.proofs.CodeLaws.{code_ways}
use Rattle.contents.proofs.codes.code.Goals as goal

pub returns-in-Information : goal.returns-in-Information
returns-in-Information c = search code_ways

pub returns-in-Spatial : goal.returns-in-Spatial
returns-in-Spatial c = search code_ways
