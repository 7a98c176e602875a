use Rattle.reader.proofs.ReaderLaws.{read_ways}
use Rattle.reader.proofs.read.Goals as goal

pub returns-then-f-gt16777216 : goal.returns-then-f-gt16777216
returns-then-f-gt16777216 c = record { answers = rw c.refused.ensures (search read_ways) }

pub returns-in-Ok : goal.returns-in-Ok
returns-in-Ok c = record { answers = rw c.done.ensures c.in-Ok.ensures }

pub returns-in-Err : goal.returns-in-Err
returns-in-Err c = record { answers = rw c.refused-in-Err.ensures c.in-Err.ensures }
