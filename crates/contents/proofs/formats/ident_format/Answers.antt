use Rattle.contents.proofs.FormatLaws.{ident_format_ways}
use Rattle.contents.proofs.formats.ident_format.Goals as goal

pub returns-then-new : goal.returns-then-new
returns-then-new c = search ident_format_ways

pub returns-else-new : goal.returns-else-new
returns-else-new c = search ident_format_ways

pub returns-then-new-2 : goal.returns-then-new-2
returns-then-new-2 c = search ident_format_ways

pub returns-else-new-2 : goal.returns-else-new-2
returns-else-new-2 c = search ident_format_ways

pub returns-then-new-3 : goal.returns-then-new-3
returns-then-new-3 c = search ident_format_ways

pub returns-else-new-3 : goal.returns-else-new-3
returns-else-new-3 c = search ident_format_ways

pub returns-then-new-4 : goal.returns-then-new-4
returns-then-new-4 c = search ident_format_ways

pub returns-else-new-4 : goal.returns-else-new-4
returns-else-new-4 c = search ident_format_ways
