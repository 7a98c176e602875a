use Rattle.composing.proofs.NextLaws.{Seeking}
use lib.ListN.{length}
use Prim.Native.Nat.{◌-◌}
use Rattle.composing.proofs.acts.deleted_from.Given as goal

abbrev pub invariant-loop-p : goal.invariant-loop-p
invariant-loop-p l = Seeking l.u l.us l.from l.key l.p l.gone

abbrev pub decreases-loop-p : goal.decreases-loop-p
decreases-loop-p l = length l.u - l.p
