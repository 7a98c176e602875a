use Rattle.references.specs.Named.{Alike}
use Rattle.references.specs.Vouched.{Aided}
use Rattle.references.specs.Readable.{all_readable}
use Rattle.rules.specs.Associations.{marks}
use Rattle.skeleton.specs.Place.{fields_at}
use Rattle.skeleton.specs.RightFrom.{RightFrom}
use lib.ListN.{length}
use mathlib.Core.Bool.{true}
use mathlib.Core.Path.{◌≡◌}
use Prim.Native.Nat.{◌-◌, ◌≤◌}
use Rattle.references.proofs.record.record_named.Given as goal

abbrev pub invariant-loop-q : goal.invariant-loop-q
invariant-loop-q l = (length l.t ≡ length l.initial.t) × (length l.k ≡ length l.initial.k) × Aided l.f l.start l.t l.n l.map l.k × (l.i ≤ l.q) × (all_readable (fields_at l.r l.h l.q) ≡ true) × RightFrom l.r l.h l.q × Alike l.f l.start (marks l.i (fields_at l.r l.h l.q)) (marks 1 (fields_at l.r l.h 24))

abbrev pub decreases-loop-q : goal.decreases-loop-q
decreases-loop-q l = length l.r - l.q
