use Rattle.contents.specs.Keys.{list_of, seen_from}
use Rattle.contents.specs.Fit.{all_fit}
use Rattle.skeleton.specs.Place.{fields_at}
use Prim.Native.Nat.{◌-◌}
use mathlib.Core.Bool.{true, false}
use mathlib.Core.Path.{◌≡◌}
use Rattle.contents.proofs.earlier.fields_have.Given as goal

abbrev pub invariant-loop : goal.invariant-loop
invariant-loop l = (all_fit false (fields_at l.r l.h l.q) ≡ true) × (seen_from l.r l.h l.q (l.n - l.counter) (list_of l.key) ≡ seen_from l.r l.h l.p l.n (list_of l.key))
