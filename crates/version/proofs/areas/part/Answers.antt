-- `part` meets its contract. Assumes nothing.
use mathlib.Core.Path.{refl}
use Rattle.version.proofs.areas.part.Goals as goal

pub returns : goal.returns
returns c = refl
