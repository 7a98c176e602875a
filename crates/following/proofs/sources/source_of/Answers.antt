use Rattle.following.proofs.SourceLaws.{source_ways}
use Rattle.following.proofs.sources.source_of.Goals as goal

pub returns-in-Some : goal.returns-in-Some
returns-in-Some c = search source_ways

pub returns-in-Some-find : goal.returns-in-Some-find
returns-in-Some-find c = search source_ways

pub returns-in-None : goal.returns-in-None
returns-in-None c = search source_ways
