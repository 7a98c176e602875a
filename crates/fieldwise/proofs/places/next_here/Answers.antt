use Rattle.fieldwise.proofs.ReaderLaws.{next_ways}
use Rattle.fieldwise.proofs.places.next_here.Goals as goal

pub returns-in-Some : goal.returns-in-Some
returns-in-Some c = search next_ways

pub returns-in-None : goal.returns-in-None
returns-in-None c = search next_ways
