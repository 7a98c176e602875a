use Rattle.base.specs.Lists.{gather}
use Rattle.rules.specs.Associations.{field_keys}
use Rattle.references.specs.Readable.{all_readable}
use Rattle.skeleton.specs.Place.{fields_at}
use Rattle.composing.specs.Tied.{Remain}
use lib.ListN.{length}
use mathlib.Core.Bool.{true}
use mathlib.Core.Path.{◌≡◌}
use Prim.Native.Nat.{◌-◌}
use Rattle.composing.proofs.naming.fields_stand.Given as goal

abbrev pub invariant-loop-field : goal.invariant-loop-field
invariant-loop-field l = (all_readable (fields_at l.r l.h l.q) ≡ true) × Remain l.u l.us l.flags (gather field_keys (fields_at l.r l.h l.q)) (gather field_keys (fields_at l.r l.h 24))

abbrev pub decreases-loop-field : goal.decreases-loop-field
decreases-loop-field l = length l.r - l.q
