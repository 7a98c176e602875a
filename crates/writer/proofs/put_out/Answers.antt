use Rattle.writer.proofs.WriteLaws.{out_ways, out_long, out_short, out_done}
use Rattle.writer.proofs.put_out.Goals as goal

pub returns-then-size-gt16777216 : goal.returns-then-size-gt16777216
returns-then-size-gt16777216 c = out_long _ _ _ c.requires.1 _ c.if-size-gt16777216.true _ _ c.refuse.ensures.0 c.refuse.ensures.1

pub returns-then-out-size : goal.returns-then-out-size
returns-then-out-size c = out_short _ _ _ c.requires.1 c.if-size-gt16777216.false _ c.if-out-size.true _ _ c.refuse-then-out-size.ensures.0 c.refuse-then-out-size.ensures.1

pub put_records-end-requires : goal.put_records-end-requires
put_records-end-requires c = search out_ways

pub zero_from-requires : goal.zero_from-requires
zero_from-requires c = search out_ways

pub returns : goal.returns
returns c = rw c.done.ensures (out_done _ _ _ c.requires.1 c.if-size-gt16777216.false _ c.if-out-size.false _ _ c.put_records-end.ensures _ c.zero_from.ensures)
