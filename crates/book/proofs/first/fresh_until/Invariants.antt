use Prim.Native.Nat.{◌≤◌}
use mathlib.Core.Path.{◌≡◌}
use lib.ListN.{length, take}
use Rattle.keys.specs.Listed.{keys_from}
use Rattle.book.specs.Rcids.{Noted}
use Rattle.book.specs.First.{Going, Fresh}
use Rattle.book.proofs.first.fresh_until.Given as goal

abbrev pub invariant-loop-y : goal.invariant-loop-y
invariant-loop-y l = (length l.t ≡ length l.initial.t) × (l.x ≤ l.y) × (l.y ≤ l.e) × Going l.f l.start l.m l.q l.y × Fresh l.f l.start l.y × Noted l.b (take l.y (keys_from l.f l.start)) l.t
