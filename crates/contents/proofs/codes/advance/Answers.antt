use Rattle.contents.proofs.CodeLaws.{advance_ways}
use Rattle.contents.proofs.codes.advance.Goals as goal

pub returns : goal.returns
returns c = search advance_ways
