use Rattle.composing.proofs.NamingLaws.{inas_ways}
use Rattle.composing.proofs.naming.inas_stands.Goals as goal

pub returns : goal.returns
returns c = search inas_ways
