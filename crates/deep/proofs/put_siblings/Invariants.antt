use mathlib.Core.Path.{◌≡◌}
use lib.ListN.{length}
use Rattle.deep.proofs.put_siblings.Given as goal

abbrev pub invariant-loop-k : goal.invariant-loop-k
invariant-loop-k l = length l.b ≡ length l.initial.b
