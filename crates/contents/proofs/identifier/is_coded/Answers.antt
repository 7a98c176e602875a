use Rattle.contents.proofs.IdentifierLaws.{coded_ways, coded_none}
use Rattle.contents.proofs.identifier.is_coded.Goals as goal

pub returns-in-Info : goal.returns-in-Info
returns-in-Info c = search coded_ways

pub returns-in_default : goal.returns-in_default
returns-in_default c = coded_none _ c.in_default.not-Info c.in_default.not-Feature
