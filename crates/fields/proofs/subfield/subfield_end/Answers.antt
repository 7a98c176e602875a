use Rattle.fields.proofs.SizeLaws.{by_format}
use Rattle.fields.proofs.subfield.subfield_end.Goals as goal

pub returns-in-B11 : goal.returns-in-B11
returns-in-B11 c = search by_format

pub returns-in-B12 : goal.returns-in-B12
returns-in-B12 c = search by_format

pub returns-in-B14 : goal.returns-in-B14
returns-in-B14 c = search by_format

pub returns-in-Among : goal.returns-in-Among
returns-in-Among c = search by_format

pub returns-in-Raw : goal.returns-in-Raw
returns-in-Raw c = search by_format

pub returns-in-Text : goal.returns-in-Text
returns-in-Text c = search by_format

pub returns-in-Fixed : goal.returns-in-Fixed
returns-in-Fixed c = search by_format
