use Rattle.fields.proofs.FormatLaws.{tuple_turn}
use borrow.Author.Rules.{rules}
use Rattle.fields.proofs.tuples.tuple_at.Goals as goal

pub returns-then-b-at : goal.returns-then-b-at
returns-then-b-at c = search tuple_turn

pub rows_end-requires : goal.rows_end-requires
rows_end-requires c = (search tuple_turn, search tuple_turn, search rules)

pub returns : goal.returns
returns c = search tuple_turn
