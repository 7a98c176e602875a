use Rattle.listing.proofs.TextLaws.{text_turn}
use Rattle.listing.proofs.text.put_text.Goals as goal

pub loop-k-init : goal.loop-k-init
loop-k-init c = search text_turn

pub overflow_add-at : goal.overflow_add-at
overflow_add-at c = search text_turn

pub store-requires : goal.store-requires
store-requires c = search text_turn

pub loop-k-preserved : goal.loop-k-preserved
loop-k-preserved c = search text_turn

pub overflow_add-result : goal.overflow_add-result
overflow_add-result c = search text_turn

pub shape_of-out : goal.shape_of-out
shape_of-out c = search text_turn

pub returns : goal.returns
returns c = search text_turn
