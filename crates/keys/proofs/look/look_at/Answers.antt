use Rattle.keys.proofs.LookLaws.{look_ways}
use Rattle.keys.proofs.look.look_at.Goals as goal

pub overflow_add-p : goal.overflow_add-p
overflow_add-p c = search look_ways

pub key_at-requires : goal.key_at-requires
key_at-requires c = search look_ways

pub returns : goal.returns
returns c = search look_ways

pub returns-in_err-head : goal.returns-in_err-head
returns-in_err-head c = search look_ways
