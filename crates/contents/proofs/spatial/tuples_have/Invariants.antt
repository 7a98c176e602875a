use mathlib.Core.Path.{◌≡◌}
use Prim.Native.Nat.{◌-◌, ◌*◌}
use Rattle.contents.specs.Keys.{has_from}
use Rattle.contents.proofs.spatial.tuples_have.Given as goal

abbrev pub invariant-loop-j : goal.invariant-loop-j
invariant-loop-j l = has_from l.b (15 * l.j) (l.n - l.j) l.x l.y ≡ has_from l.b 0 l.n l.x l.y
