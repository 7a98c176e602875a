use Rattle.composing.proofs.NextLaws.{Going}
use lib.ListN.{length}
use Prim.Native.Nat.{◌-◌}
use Rattle.composing.proofs.acts.fate.Given as goal

abbrev pub invariant-loop-p : goal.invariant-loop-p
invariant-loop-p l = Going l.u l.us l.key l.before l.p l.stands

abbrev pub decreases-loop-p : goal.decreases-loop-p
decreases-loop-p l = length l.u - l.p
