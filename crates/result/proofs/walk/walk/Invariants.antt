use Rattle.result.proofs.SideLaws.{Walking}
use mathlib.Core.Path.{◌≡◌}
use Prim.Native.Nat.{◌-◌}
use lib.ListN.{length}
use Rattle.result.proofs.walk.walk.Given as goal

abbrev pub invariant-loop-g : goal.invariant-loop-g
invariant-loop-g l = Walking l.d l.ds l.u l.us l.q l.t l.n l.map l.old l.initial.g l.g l.initial.work l.initial.out l.work l.out × (length l.work ≡ length l.initial.work) × (length l.out ≡ length l.initial.out)

abbrev pub decreases-loop-g : goal.decreases-loop-g
decreases-loop-g l = length l.f - l.g.next
