use mathlib.Core.Path.{◌≡◌}
use lib.ListN.{length}
use Prim.Native.Nat.{◌-◌}
use Rattle.sorting.proofs.IndexLaws.{Filling}
use Rattle.sorting.proofs.index.fill.Given as goal

abbrev pub invariant-loop-look : goal.invariant-loop-look
invariant-loop-look l = Filling l.u l.us l.q l.n l.s × (length l.s ≡ length l.initial.s)

abbrev pub decreases-loop-look : goal.decreases-loop-look
decreases-loop-look l = length l.u - l.q
