-- `splice` meets its contract. Assumes nothing.
use Rattle.memory.proofs.PutLaws.{length_part}
use Rattle.memory.proofs.SpliceLaws.{spliced_in_stored}
use native.Mathlib.Omega.{arith}
use Rattle.memory.proofs.splicing.splice.Goals as goal

pub returns : goal.returns
returns c = let a = c.args in (
  omega arith,
  spliced_in_stored a.used a.at a.del a.n _ _ (length_part a.from a.n a.src.now (omega arith)) c.shift.ensures c.copy.ensures,
)
