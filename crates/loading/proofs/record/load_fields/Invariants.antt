-- `load_fields` meets its contract. Assumes nothing.
use Prim.Native.Nat.{◌+◌, ◌-◌}
use lib.ListN.{length}
use Rattle.skeleton.specs.Place.{between}
use Rattle.loading.proofs.FieldsLaws.{LoadAt}
use Rattle.loading.proofs.record.load_fields.Given as goal

abbrev pub invariant-loop-field : goal.invariant-loop-field
invariant-loop-field l = LoadAt l.b l.at l.len l.h l.x l.p l.initial.work l.initial.r l.work l.q l.r

abbrev pub decreases-loop-field : goal.decreases-loop-field
decreases-loop-field l = length (between l.b l.at (l.at + l.len)) - l.q
