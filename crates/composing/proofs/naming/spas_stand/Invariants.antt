use Rattle.rules.specs.Associations.{spas_keys}
use Rattle.fields.specs.Table.{tuple_of}
use Rattle.fields.specs.Places.{ending_at}
use Rattle.fields.specs.declared.Format.TheVariants.{Spas}
use Rattle.composing.specs.Tied.{Remain}
use lib.ListN.{length, drop}
use mathlib.Core.Path.{◌≡◌}
use Prim.Native.Nat.{◌-◌, ◌≤◌}
use Rattle.composing.proofs.naming.spas_stand.Given as goal

abbrev pub invariant-loop-at : goal.invariant-loop-at
invariant-loop-at l = (l.at ≤ length l.b) × (ending_at (tuple_of Spas) l.b l.at ≡ 0) × Remain l.u l.us l.flags (spas_keys (drop l.at l.b)) (spas_keys l.b)

abbrev pub decreases-loop-at : goal.decreases-loop-at
decreases-loop-at l = length l.b - l.at
