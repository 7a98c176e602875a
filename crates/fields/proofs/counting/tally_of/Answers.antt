use Rattle.fields.proofs.FormatLaws.{field_turn}
use borrow.Author.Rules.{rules}
use Rattle.fields.proofs.counting.tally_of.Goals as goal

pub rows_end-requires : goal.rows_end-requires
rows_end-requires c = (search field_turn, search field_turn, search rules)

pub returns-in_default : goal.returns-in_default
returns-in_default c = search field_turn

pub all_raw-requires : goal.all_raw-requires
all_raw-requires c = (search field_turn, search field_turn)

pub tally_raw-requires : goal.tally_raw-requires
tally_raw-requires c = (search field_turn, search field_turn, search field_turn, search field_turn)

pub returns-then-all_raw : goal.returns-then-all_raw
returns-then-all_raw c = search field_turn

pub tally_each-requires : goal.tally_each-requires
tally_each-requires c = (search field_turn, search field_turn, search field_turn)

pub returns : goal.returns
returns c = search field_turn
