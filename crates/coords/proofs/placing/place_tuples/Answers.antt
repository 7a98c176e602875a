use Rattle.coords.proofs.PlacingLaws.{cocc_ways}
use Rattle.coords.proofs.placing.place_tuples.Goals as goal

pub returns-then-n-i : goal.returns-then-n-i
returns-then-n-i c = search cocc_ways

pub returns-then-instruction-eq1 : goal.returns-then-instruction-eq1
returns-then-instruction-eq1 c = search cocc_ways

pub returns-then-n-i-2 : goal.returns-then-n-i-2
returns-then-n-i-2 c = search cocc_ways

pub returns-then-instruction-eq2 : goal.returns-then-instruction-eq2
returns-then-instruction-eq2 c = search cocc_ways

pub returns : goal.returns
returns c = search cocc_ways
