use Rattle.records.proofs.OrderLaws.{not_taken_ways}
use Rattle.records.proofs.order.not_taken.Goals as goal

pub returns-then-ruin-eq2 : goal.returns-then-ruin-eq2
returns-then-ruin-eq2 c = search not_taken_ways

pub returns-then-tag-eq-COCC : goal.returns-then-tag-eq-COCC
returns-then-tag-eq-COCC c = search not_taken_ways

pub returns-then-tag-ne-C2IL : goal.returns-then-tag-ne-C2IL
returns-then-tag-ne-C2IL c = search not_taken_ways

pub returns-then-coui-eq2 : goal.returns-then-coui-eq2
returns-then-coui-eq2 c = search not_taken_ways

pub returns-then-ruin-ne3 : goal.returns-then-ruin-ne3
returns-then-ruin-ne3 c = search not_taken_ways

pub returns : goal.returns
returns c = search not_taken_ways
