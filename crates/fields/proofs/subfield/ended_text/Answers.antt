use Rattle.fields.proofs.SizeLaws.{text_none, text_there, text_other}
use Rattle.fields.proofs.subfield.ended_text.Goals as goal

pub returns-then-b-e : goal.returns-then-b-e
returns-then-b-e c = search text_none

pub returns-then-b-e-eq31 : goal.returns-then-b-e-eq31
returns-then-b-e-eq31 c = search text_there

pub returns : goal.returns
returns c = search text_other
