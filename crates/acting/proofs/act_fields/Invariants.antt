-- `act_fields` meets its contract. Assumes nothing.
use Prim.Native.Nat.{◌+◌, ◌-◌}
use lib.ListN.{length}
use Rattle.skeleton.specs.Place.{between}
use Rattle.acting.proofs.FieldsLaws.{Going}
use Rattle.acting.proofs.act_fields.Given as goal

abbrev pub invariant-loop-field : goal.invariant-loop-field
invariant-loop-field l = Going l.d l.u l.at l.len l.h l.initial.work l.initial.e l.work l.q l.i l.e

abbrev pub decreases-loop-field : goal.decreases-loop-field
decreases-loop-field l = length (between l.u l.at (l.at + l.len)) - l.q
