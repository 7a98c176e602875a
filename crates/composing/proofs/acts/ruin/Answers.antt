use Rattle.composing.proofs.ActsLaws.{ruin_ways}
use Rattle.composing.proofs.acts.ruin.Goals as goal

pub ruin_byte-requires : goal.ruin_byte-requires
ruin_byte-requires c = search ruin_ways

pub returns-in-Some : goal.returns-in-Some
returns-in-Some c = search ruin_ways

pub returns-in-None : goal.returns-in-None
returns-in-None c = search ruin_ways
