use Rattle.writing.proofs.PartsLaws.{wrote_entry}
use native.Mathlib.Omega.{arith}
use Rattle.writing.proofs.parts.put_entry.Goals as goal

pub returns : goal.returns
returns c = (omega arith, wrote_entry _ _ _ c.put_decimal.ensures.1 c.put_decimal-p2.ensures.1 c.put_tag-p1.ensures.1)
