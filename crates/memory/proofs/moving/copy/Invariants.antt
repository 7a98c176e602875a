-- `copy` meets its contract: k of the n bytes are stored. Assumes nothing.
use Rattle.memory.specs.Put.{part}
use Rattle.memory.proofs.LoopLaws.{Stored}
use Rattle.memory.proofs.moving.copy.Given as goal

abbrev pub invariant-loop-k : goal.invariant-loop-k
invariant-loop-k l = Stored l.at l.n (part l.from l.n l.src) l.initial.dst 0 l.k l.dst
