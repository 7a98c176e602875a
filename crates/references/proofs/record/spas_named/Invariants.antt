use Rattle.references.specs.Named.{Alike}
use Rattle.references.specs.Vouched.{Aided}
use Rattle.rules.specs.Associations.{spas_marks}
use Rattle.fields.specs.Table.{tuple_of}
use Rattle.fields.specs.Content.{many}
use Rattle.fields.specs.Places.{ending_at}
use Rattle.fields.specs.declared.Format.TheVariants.{Spas}
use lib.ListN.{length, drop}
use mathlib.Core.Path.{◌≡◌}
use Prim.Native.Nat.{◌+◌, ◌-◌, ◌≤◌}
use Rattle.references.proofs.record.spas_named.Given as goal

abbrev pub invariant-loop-at : goal.invariant-loop-at
invariant-loop-at l = (length l.t ≡ length l.initial.t) × (length l.k ≡ length l.initial.k) × Aided l.f l.start l.t l.n l.map l.k × (l.at ≤ length l.b) × (l.j ≤ l.at + 1) × (ending_at (tuple_of Spas) l.b l.at ≡ 0) × Alike l.f l.start (spas_marks l.i l.j (many (tuple_of Spas) (drop l.at l.b))) (spas_marks l.i 1 (many (tuple_of Spas) l.b))

abbrev pub decreases-loop-at : goal.decreases-loop-at
decreases-loop-at l = length l.b - l.at
