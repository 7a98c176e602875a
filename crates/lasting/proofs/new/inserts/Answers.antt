use lib.Dec.{eqb}
use Prim.Native.Nat.{ℕ}
use mathlib.Core.Path.{ap}
use Rattle.lasting.proofs.new.inserts.Goals as goal

pub returns : goal.returns
returns c = ap (λ (m : ℕ). eqb m 1) c.ruin.ensures
