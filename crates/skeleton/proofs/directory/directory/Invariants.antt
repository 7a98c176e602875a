-- `directory::directory` meets its contract. The invariant: the walk from here on ends as the walk asked for. Assumes nothing.
use Prim.Native.Nat.{◌-◌, ◌≤◌}
use mathlib.Core.Path.{◌≡◌}
use lib.ListN.{length}
use Rattle.skeleton.specs.Directory.{fields_from}
use Rattle.skeleton.proofs.directory.directory.Given as goal

abbrev pub invariant-loop-pos : goal.invariant-loop-pos
invariant-loop-pos l = (l.at ≤ length l.r) × ((fields_from l.r l.h.base l.h.a l.h.b l.p l.at).ending ≡ (fields_from l.r l.h.base l.h.a l.h.b 24 0).ending)

abbrev pub decreases-loop-pos : goal.decreases-loop-pos
decreases-loop-pos l = length l.r - l.p
