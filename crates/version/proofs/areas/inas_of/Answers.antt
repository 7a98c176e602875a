-- `inas_of` meets its contract. Assumes nothing.
use Rattle.version.proofs.areas.inas_of.Goals as goal

pub returns : goal.returns
returns c = c.part.ensures
