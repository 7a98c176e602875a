-- `put_little_endian` meets its contract: k bytes are stored, and the others are the lowest of `rest`. Assumes nothing.
use mathlib.Core.Path.{◌≡◌}
use Prim.Native.Nat.{◌-◌}
use lib.ListN.{drop}
use Rattle.memory.specs.Digits.{little_endian}
use Rattle.memory.proofs.LoopLaws.{Stored}
use Rattle.memory.proofs.writing.put_little_endian.Given as goal

abbrev pub invariant-loop-k : goal.invariant-loop-k
invariant-loop-k l = Stored l.at l.w (little_endian l.w l.x) l.initial.out 0 l.k l.out × (drop l.k (little_endian l.w l.x) ≡ little_endian (l.w - l.k) l.rest)
