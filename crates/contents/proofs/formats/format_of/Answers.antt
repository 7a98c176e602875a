use Rattle.contents.proofs.FormatLaws.{format_ways}
use Rattle.contents.proofs.formats.format_of.Goals as goal

pub returns-then-new : goal.returns-then-new
returns-then-new c = search format_ways

pub returns-else-new : goal.returns-else-new
returns-else-new c = search format_ways

pub returns-then-new-2 : goal.returns-then-new-2
returns-then-new-2 c = search format_ways

pub returns-else-new-2 : goal.returns-else-new-2
returns-else-new-2 c = search format_ways

pub returns-in-1229865299 : goal.returns-in-1229865299
returns-in-1229865299 c = search format_ways

pub returns-in-1179601220 : goal.returns-in-1179601220
returns-in-1179601220 c = search format_ways

pub returns-in-1129268035 : goal.returns-in-1129268035
returns-in-1129268035 c = search format_ways

pub returns-in-1127369044 : goal.returns-in-1127369044
returns-in-1127369044 c = search format_ways

pub returns-in_default : goal.returns-in_default
returns-in_default c = search format_ways
