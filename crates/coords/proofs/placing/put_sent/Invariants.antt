use Prim.Native.Nat.{◌-◌}
use mathlib.Core.Path.{◌≡◌}
use mathlib.Core.List.{◌++◌}
use lib.ListN.{length, take, drop}
use Rattle.skeleton.specs.Place.{fields_at}
use Rattle.rules.specs.Coordinates.{sent}
use Rattle.coords.specs.Tuples.{tuples_of}
use Rattle.coords.specs.Placing.{Putting}
use Rattle.coords.proofs.placing.put_sent.Given as goal

abbrev pub invariant-loop-field : goal.invariant-loop-field
invariant-loop-field l = Putting (fields_at l.r l.h l.q) l.l l.m l.j (take l.i (tuples_of l.initial.l l.n) ++ (sent (fields_at l.r l.h 24) ++ drop l.i (tuples_of l.initial.l l.n))) × (length l.l ≡ length l.initial.l)

abbrev pub decreases-loop-field : goal.decreases-loop-field
decreases-loop-field l = length l.r - l.q
