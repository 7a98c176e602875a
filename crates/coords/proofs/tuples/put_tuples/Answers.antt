use Rattle.coords.proofs.TupleLaws.{tuples_put}
use mathlib.Core.Path.{refl}
use native.Mathlib.Omega.{arith}
use Rattle.coords.proofs.tuples.put_tuples.Goals as goal

pub returns : goal.returns
returns c = tuples_put _ _ _ _ _ _ (omega arith) (omega arith) (omega arith) (omega arith) (omega arith) refl c.splice.ensures.1 refl
