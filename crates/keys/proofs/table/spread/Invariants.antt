use mathlib.Core.Path.{◌≡◌}
use lib.ListN.{length}
use Prim.Native.Nat.{◌-◌}
use Rattle.keys.specs.Table.{Tails}
use Rattle.keys.proofs.TableLaws.{Passed, Climbing}
use Rattle.keys.proofs.table.spread.Given as goal

abbrev pub invariant-loop-look : goal.invariant-loop-look
invariant-loop-look l = (length l.t ≡ length l.initial.t) × (length l.map ≡ length l.initial.map) × Tails l.f l.start l.t × Passed l.f l.start l.i l.p l.map × Climbing l.f l.start l.p l.last l.ascended

abbrev pub decreases-loop-look : goal.decreases-loop-look
decreases-loop-look l = length l.f - l.p
