use Rattle.contents.proofs.NewLaws.{new_ways}
use Rattle.contents.proofs.associations.is_new.Goals as goal

pub returns-then-top-key_number : goal.returns-then-top-key_number
returns-then-top-key_number c = search new_ways

pub returns-then-tuples_have : goal.returns-then-tuples_have
returns-then-tuples_have c = search new_ways

pub returns : goal.returns
returns c = search new_ways
