use Rattle.fields.proofs.FormatLaws.{place_turn}
use borrow.Author.Rules.{rules}
use Rattle.fields.proofs.head.head_place.Goals as goal

pub overflow_sub-tuple : goal.overflow_sub-tuple
overflow_sub-tuple c = search place_turn

pub rows_end-requires : goal.rows_end-requires
rows_end-requires c = (search rules, search place_turn, search rules)

pub returns-then-j-tuple : goal.returns-then-j-tuple
returns-then-j-tuple c = search place_turn

pub rows_end-requires-2 : goal.rows_end-requires-2
rows_end-requires-2 c = (search place_turn, search place_turn, search rules)

pub returns : goal.returns
returns c = search place_turn
