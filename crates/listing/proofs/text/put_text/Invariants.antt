use lib.ListN.{length}
use Rattle.memory.proofs.LoopLaws.{Stored}
use Rattle.listing.proofs.text.put_text.Given as goal

abbrev pub invariant-loop-k : goal.invariant-loop-k
invariant-loop-k l = Stored l.at (length l.text) l.text l.initial.out 0 l.k l.out
