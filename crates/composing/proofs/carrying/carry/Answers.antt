use Rattle.composing.proofs.EmittedLaws.{emitted_ways}
use borrow.Author.Rules.{rules}
use Rattle.composing.proofs.carrying.carry.Goals as goal

pub overflow_add-n : goal.overflow_add-n
overflow_add-n c = search emitted_ways

pub returns-then-out-n : goal.returns-then-out-n
returns-then-out-n c = search emitted_ways

pub write_counted-requires : goal.write_counted-requires
write_counted-requires c = record { bounded = search rules; h_in_bounds = search emitted_ways }

pub returns : goal.returns
returns c = search emitted_ways
