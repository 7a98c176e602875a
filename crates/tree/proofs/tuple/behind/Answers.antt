use Rattle.tree.specs.Source.{past}
use native.Mathlib.Omega.{arith}
use Rattle.tree.proofs.tuple.behind.Goals as goal

pub overflow_add-at : goal.overflow_add-at
unfolding past
overflow_add-at c = omega arith

pub text_end-requires : goal.text_end-requires
unfolding past
text_end-requires c = omega arith

pub overflow_add-result : goal.overflow_add-result
unfolding past
overflow_add-result c = omega arith

pub returns : goal.returns
unfolding past
returns c = omega arith
