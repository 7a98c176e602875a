-- `spas_of` meets its contract. Assumes nothing.
use Rattle.version.proofs.areas.spas_of.Goals as goal

pub returns : goal.returns
returns c = c.part.ensures
