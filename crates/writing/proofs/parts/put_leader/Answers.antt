use Rattle.writing.proofs.PartsLaws.{wrote_leader}
use native.Mathlib.Omega.{arith}
use Rattle.writing.proofs.parts.put_leader.Goals as goal

pub returns : goal.returns
returns c = (omega arith, wrote_leader _ _ _ c.put_last.ensures.1 c.put_decimal-p3.ensures.1 c.put_middle-p2.ensures.1 c.put_decimal-p1.ensures.1)
