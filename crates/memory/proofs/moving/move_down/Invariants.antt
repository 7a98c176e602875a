-- `move_down` meets its contract: the first k of the n bytes are stored, and those that are read next lie above them. Assumes nothing.
use Rattle.memory.specs.Put.{part}
use Rattle.memory.proofs.LoopLaws.{Stored}
use Rattle.memory.proofs.moving.move_down.Given as goal

abbrev pub invariant-loop-k : goal.invariant-loop-k
invariant-loop-k l = Stored l.at l.n (part l.from l.n l.initial.w) l.initial.w 0 l.k l.w
