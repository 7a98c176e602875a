-- `find` meets its contract. Assumes nothing.
use mathlib.Core.Path.{◌≡◌}
use Prim.Native.Nat.{◌+◌, ◌-◌}
use lib.ListN.{drop}
use Rattle.cells.specs.Cells.{bodies_from}
use Rattle.cells.specs.Keys.{key_in, first_with}
use Rattle.cells.proofs.search.find.Given as goal

abbrev pub invariant-loop-i : goal.invariant-loop-i
invariant-loop-i l = l.i + first_with (key_in l.inas) (key_in l.inas (drop l.at l.u)) (bodies_from l.d l.u l.c l.i (l.n - l.i)) ≡ first_with (key_in l.inas) (key_in l.inas (drop l.at l.u)) (bodies_from l.d l.u l.c 0 l.n)
