-- `digits::number_at` meets its contract. The invariant: the number from here on is the number asked for, and the digits to come have room.
-- Assumes nothing.
use Prim.Native.Nat.{◌+◌, ◌-◌, ◌^◌}
use mathlib.Core.Path.{◌≡◌}
use Rattle.skeleton.specs.Digits.{digits_from}
use Rattle.skeleton.proofs.DigitsLaws.{Room}
use Rattle.skeleton.proofs.digits.number_at.Given as goal

abbrev pub invariant-loop-i : goal.invariant-loop-i
invariant-loop-i l =
    let e = l.at + l.width in
    Room (10 ^ 9) (e - l.i) l.acc × (digits_from l.s l.i (e - l.i) l.acc ≡ digits_from l.s l.at l.width 0)
