use mathlib.Core.Path.{◌≡◌}
use lib.ListN.{length, take}
use Rattle.keys.specs.Listed.{keys_from}
use Rattle.book.specs.Rcids.{Noted}
use Rattle.book.specs.First.{Going}
use Rattle.book.proofs.first.mark.Given as goal

abbrev pub invariant-loop : goal.invariant-loop
invariant-loop l = (length l.t ≡ length l.initial.t) × Going l.f l.start l.m l.p l.counter × Noted l.b (take l.counter (keys_from l.f l.start)) l.t
