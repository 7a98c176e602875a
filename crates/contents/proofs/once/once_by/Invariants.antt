use Prim.Native.Nat.{◌-◌}
use mathlib.Core.Path.{◌≡◌}
use lib.ListN.{length}
use Rattle.skeleton.specs.Place.{fields_at}
use Rattle.contents.specs.Codes.{codes_in, Apart, Behind}
use Rattle.contents.proofs.once.once_by.Given as goal

abbrev pub invariant-loop-x : goal.invariant-loop-x
invariant-loop-x l = (length l.b ≡ length l.initial.b) × (length l.t ≡ length l.initial.t) × Behind l.r l.h l.p l.x l.w × Apart (codes_in (fields_at l.r l.h l.p)) l.x

abbrev pub decreases-loop-x : goal.decreases-loop-x
decreases-loop-x l = 65536 - l.x
