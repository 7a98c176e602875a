use Rattle.records.proofs.OrderLaws.{order_turn}
use native.Mathlib.Omega.{arith}
use Rattle.records.proofs.order.order.Goals as goal

pub bounds-r-q : goal.bounds-r-q
bounds-r-q c = search order_turn

pub tag_at-tag-requires : goal.tag_at-tag-requires
tag_at-tag-requires c = search order_turn

pub returns-then-shut_out : goal.returns-then-shut_out
returns-then-shut_out c = search order_turn

pub overflow_add-q-in-loop-q-2 : goal.overflow_add-q-in-loop-q-2
overflow_add-q-in-loop-q-2 c = search order_turn

pub overflow_add-i : goal.overflow_add-i
overflow_add-i c = search order_turn

pub loop-q-smaller : goal.loop-q-smaller
loop-q-smaller c = search order_turn

pub loop-q-preserved : goal.loop-q-preserved
loop-q-preserved c = (omega arith, search order_turn, search order_turn, search order_turn, search order_turn)

pub returns-in_default : goal.returns-in_default
returns-in_default c = search order_turn

pub returns : goal.returns
returns c = search order_turn
