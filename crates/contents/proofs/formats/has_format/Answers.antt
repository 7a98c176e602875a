use Rattle.contents.proofs.FormatLaws.{has_format_ways}
use Rattle.contents.proofs.formats.has_format.Goals as goal

pub returns-then-has_tuples : goal.returns-then-has_tuples
returns-then-has_tuples c = search has_format_ways

pub returns-in-Ok : goal.returns-in-Ok
returns-in-Ok c = search has_format_ways

pub returns-else-has_tuples : goal.returns-else-has_tuples
returns-else-has_tuples c = search has_format_ways
