-- `tell_dsid` meets its contract. Assumes nothing.
use Rattle.cable.proofs.TellingLaws.{dsid_ways}
use Rattle.cable.proofs.telling.tell_dsid.Goals as goal

pub text_end-e-requires : goal.text_end-e-requires
text_end-e-requires c = search dsid_ways

pub overflow_sub-e : goal.overflow_sub-e
overflow_sub-e c = search dsid_ways

pub overflow_add-e : goal.overflow_add-e
overflow_add-e c = search dsid_ways

pub returns-then-out-e : goal.returns-then-out-e
returns-then-out-e c = search dsid_ways

pub returns : goal.returns
returns c = rw c.done.ensures (search dsid_ways)
