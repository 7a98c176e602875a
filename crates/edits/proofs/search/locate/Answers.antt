use Rattle.edits.proofs.SearchLaws.{found_is, found_nowhere}
use native.Mathlib.Omega.{arith}
use Rattle.edits.proofs.search.locate.Goals as goal

pub returns-then-s-k : goal.returns-then-s-k
returns-then-s-k c = let f = c.walk-s.ensures.found c.if-s-k.true in found_is _ _ _ f.0 f.1

pub returns : goal.returns
returns c = found_nowhere _ _ (omega (arith, (c.walk-s.ensures.ended c.if-s-k.false).2))
