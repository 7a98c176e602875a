use mathlib.Core.Path.{◌≡◌}
use lib.ListN.{length, drop}
use Rattle.contents.specs.Codes.{codes_from, Walks}
use Rattle.contents.proofs.once.gather.Given as goal

abbrev pub invariant-loop-k : goal.invariant-loop-k
invariant-loop-k l = (length l.b ≡ length l.initial.b) × Walks l.r l.h l.v × (codes_from l.r l.h l.v ≡ drop l.k (codes_from l.r l.h l.initial.v))
