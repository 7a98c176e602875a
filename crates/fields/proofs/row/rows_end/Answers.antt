use Rattle.fields.proofs.OftenLaws.{named_rows}
use Rattle.fields.proofs.row.rows_end.Goals as goal

pub returns-then-to-eq73 : goal.returns-then-to-eq73
returns-then-to-eq73 c = search named_rows

pub returns-then-to-eq93 : goal.returns-then-to-eq93
returns-then-to-eq93 c = search named_rows

pub returns-then-to-eq42 : goal.returns-then-to-eq42
returns-then-to-eq42 c = search named_rows

pub returns-then-to-eq50 : goal.returns-then-to-eq50
returns-then-to-eq50 c = search named_rows

pub returns-then-to-eq68 : goal.returns-then-to-eq68
returns-then-to-eq68 c = search named_rows
