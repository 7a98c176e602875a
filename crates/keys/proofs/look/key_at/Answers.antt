use Rattle.keys.proofs.KeyLaws.{key_ways}
use Rattle.keys.proofs.look.key_at.Goals as goal

pub returns-then-f-q : goal.returns-then-f-q
returns-then-f-q c = search key_ways

pub returns : goal.returns
returns c = search key_ways
