use mathlib.Core.Path.{◌≡◌}
use Prim.Native.Nat.{◌≤◌, ◌-◌}
use lib.ListN.{length}
use Rattle.keys.specs.Listed.{seen_from}
use Rattle.keys.specs.Look.{Known}
use Rattle.keys.proofs.look.seen.Given as goal

abbrev pub invariant-loop : goal.invariant-loop
invariant-loop l = (l.p ≤ length l.f) × (Known l.f l.p (l.m - l.counter)) × (seen_from l.f l.p (l.m - l.counter) l.key ≡ seen_from l.f l.start l.m l.key)
