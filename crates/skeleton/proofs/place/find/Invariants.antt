-- `place::find` meets its contract. The invariant: what is found from here on is what is asked for. Assumes nothing.
use Prim.Native.Nat.{◌-◌}
use mathlib.Core.Path.{◌≡◌}
use lib.ListN.{length}
use Rattle.skeleton.specs.Place.{find_from}
use Rattle.skeleton.proofs.place.find.Given as goal

abbrev pub invariant-loop-field : goal.invariant-loop-field
invariant-loop-field l = find_from l.r l.h l.wanted l.q ≡ find_from l.r l.h l.wanted l.p

abbrev pub decreases-loop-field : goal.decreases-loop-field
decreases-loop-field l = length l.r - l.q
