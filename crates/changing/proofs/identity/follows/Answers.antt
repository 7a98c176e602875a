-- `follows` meets its contract. Assumes nothing.
use mathlib.Core.Path.{◌≡◌}
use Prim.Native.Nat.{◌+◌}
use Rattle.changing.proofs.ActLaws.{both_first, first_not}
use native.Mathlib.Omega.{arith}
use Rattle.changing.proofs.identity.follows.Goals as goal

pub returns-then-from : goal.returns-then-from
returns-then-from c = let e : c.args.s.rver ≡ c.args.v.rver + 1 = omega arith in both_first _ _ _ e

pub returns-else-from : goal.returns-else-from
returns-else-from c = rw (← c.from.ensures, ← c.from-2.ensures) (first_not _ _ _ c.if-from.false)
