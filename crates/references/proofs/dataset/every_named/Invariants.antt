use mathlib.Core.Path.{◌≡◌}
use lib.ListN.{length}
use Prim.Native.Nat.{◌-◌}
use Rattle.references.specs.Vouched.{Aided}
use Rattle.references.proofs.DatasetLaws.{Reached}
use Rattle.references.proofs.dataset.every_named.Given as goal

abbrev pub invariant-loop-head : goal.invariant-loop-head
invariant-loop-head l = (length l.t ≡ length l.initial.t) × (length l.k ≡ length l.initial.k) × Aided l.f l.start l.t l.n l.map l.k × Reached l.f l.start l.p l.m

abbrev pub decreases-loop-head : goal.decreases-loop-head
decreases-loop-head l = length l.f - l.p
