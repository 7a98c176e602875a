use mathlib.Core.Path.{◌≡◌}
use lib.ListN.{length}
use Prim.Native.Nat.{◌-◌}
use Rattle.keys.specs.Table.{Tail}
use Rattle.references.specs.Vouched.{Vouched}
use Rattle.references.proofs.vouching.vouch_all.Given as goal

abbrev pub invariant-loop-look : goal.invariant-loop-look
invariant-loop-look l = (length l.k ≡ length l.initial.k) × Tail l.f l.start l.p × Vouched l.f l.start l.b l.k

abbrev pub decreases-loop-look : goal.decreases-loop-look
decreases-loop-look l = length l.f - l.p
