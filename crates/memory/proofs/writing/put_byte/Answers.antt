-- `put_byte` meets its contract. Assumes nothing.
use mathlib.Core.Path.{refl}
use native.Mathlib.Omega.{arith}
use Rattle.memory.proofs.PutLaws.{put_one}
use Rattle.memory.proofs.WroteLaws.{wrote}
use Rattle.memory.proofs.writing.put_byte.Goals as goal

pub returns : goal.returns
returns c = wrote refl (omega arith) (put_one _ _ _)
