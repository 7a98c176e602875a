use Rattle.numbering.proofs.ValueLaws.{text_writes}
use Rattle.numbering.proofs.values.put_text.Goals as goal

pub returns-then-n-eq0 : goal.returns-then-n-eq0
returns-then-n-eq0 c = search text_writes

pub put_part-p-requires : goal.put_part-p-requires
put_part-p-requires c = search text_writes

pub returns : goal.returns
returns c = search text_writes
