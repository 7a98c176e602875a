use mathlib.Core.Path.{◌≡◌}
use Prim.Native.Nat.{◌-◌, ◌≤◌}
use lib.ListN.{length}
use Rattle.keys.specs.Once.{Once}
use Rattle.keys.specs.Standing.{Standing}
use Rattle.book.specs.First.{Ahead}
use Rattle.dataset.specs.Walk.{whole_from}
use Rattle.dataset.proofs.walk.each_record.Given as goal

abbrev pub invariant-loop-p : goal.invariant-loop-p
invariant-loop-p l = (l.p ≤ length l.f) × (l.m ≤ l.p) × (length l.t ≡ length l.initial.t) × Standing l.f l.start l.p l.m l.top (whole_from l.f l.start) × Once l.f l.start l.m l.top l.t × Ahead l.f l.start l.m l.w

abbrev pub decreases-loop-p : goal.decreases-loop-p
decreases-loop-p l = length l.f - l.p
