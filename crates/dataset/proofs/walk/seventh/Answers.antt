use borrow.Author.Rules.{rules}
use Rattle.dataset.proofs.WalkLaws.{seventh_ways}
use Rattle.dataset.proofs.walk.seventh.Goals as goal

pub overflow_add-p : goal.overflow_add-p
overflow_add-p c = search (rules, seventh_ways)

pub key_at-key-requires : goal.key_at-key-requires
key_at-key-requires c = search (rules, seventh_ways)

pub returns-then-repeats : goal.returns-then-repeats
returns-then-repeats c = search (rules, seventh_ways)

pub overflow_add-e : goal.overflow_add-e
overflow_add-e c = search (rules, seventh_ways)

pub slice_bounds-check_keys-end : goal.slice_bounds-check_keys-end
slice_bounds-check_keys-end c = search (rules, seventh_ways)

pub check_keys-requires : goal.check_keys-requires
check_keys-requires c = search (rules, seventh_ways)

pub returns-in_err-check_keys : goal.returns-in_err-check_keys
returns-in_err-check_keys c = search (rules, seventh_ways)

pub returns : goal.returns
returns c = search (rules, seventh_ways)

pub repeats-requires : goal.repeats-requires
repeats-requires c = record { ahead = search seventh_ways; once = search seventh_ways }
