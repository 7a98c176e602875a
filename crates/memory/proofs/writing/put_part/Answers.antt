-- `put_part` meets its contract. Assumes nothing.
use Rattle.memory.proofs.PutLaws.{length_part}
use Rattle.memory.proofs.WroteLaws.{wrote}
use native.Mathlib.Omega.{arith}
use Rattle.memory.proofs.writing.put_part.Goals as goal

pub returns : goal.returns
returns c = wrote (length_part _ _ _ (omega arith)) (omega arith) c.copy.ensures
