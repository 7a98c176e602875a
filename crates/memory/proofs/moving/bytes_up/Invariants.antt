-- `bytes_up` meets its contract: the last n - k of the n bytes are stored, and those that are read next lie below them. Assumes nothing.
use Rattle.memory.specs.Put.{part}
use Rattle.memory.proofs.LoopLaws.{Stored}
use Rattle.memory.proofs.moving.bytes_up.Given as goal

abbrev pub invariant-loop-k : goal.invariant-loop-k
invariant-loop-k l = Stored l.at l.n (part l.from l.n l.initial.w) l.initial.w l.k l.n l.w
