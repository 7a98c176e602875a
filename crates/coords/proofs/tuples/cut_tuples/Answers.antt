use Rattle.coords.proofs.TupleLaws.{tuples_cut}
use mathlib.Core.Path.{refl}
use native.Mathlib.Omega.{arith}
use Rattle.coords.proofs.tuples.cut_tuples.Goals as goal

pub returns : goal.returns
returns c = tuples_cut _ _ _ _ (omega arith) (omega arith) c.close_gap.ensures.1 refl
