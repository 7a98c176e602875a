use Rattle.following.proofs.SourceLaws.{body_ways}
use Rattle.following.proofs.sources.put_body.Goals as goal

pub overflow_sub-end : goal.overflow_sub-end
overflow_sub-end c = search body_ways

pub put_part-p-requires : goal.put_part-p-requires
put_part-p-requires c = search body_ways

pub put_byte-requires : goal.put_byte-requires
put_byte-requires c = search body_ways

pub overflow_sub-end-in-Kept : goal.overflow_sub-end-in-Kept
overflow_sub-end-in-Kept c = search body_ways

pub put_part-p-requires-in-Kept : goal.put_part-p-requires-in-Kept
put_part-p-requires-in-Kept c = search body_ways

pub put_byte-requires-in-Kept : goal.put_byte-requires-in-Kept
put_byte-requires-in-Kept c = search body_ways

pub returns-in-Sent : goal.returns-in-Sent
returns-in-Sent c = search body_ways

pub returns-in-Kept : goal.returns-in-Kept
returns-in-Kept c = search body_ways

pub returns-in-Neither : goal.returns-in-Neither
returns-in-Neither c = search body_ways
