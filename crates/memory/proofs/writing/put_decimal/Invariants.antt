-- `put_decimal` meets its contract: the last w - k characters are stored, and the first k are the lowest of `rest`. Assumes nothing.
use mathlib.Core.Path.{◌≡◌}
use lib.ListN.{take}
use Rattle.memory.specs.Digits.{decimal}
use Rattle.memory.proofs.LoopLaws.{Stored}
use Rattle.memory.proofs.writing.put_decimal.Given as goal

abbrev pub invariant-loop-k : goal.invariant-loop-k
invariant-loop-k l = Stored l.at l.w (decimal l.w l.x) l.initial.out l.k l.w l.out × (take l.k (decimal l.w l.x) ≡ decimal l.k l.rest)
