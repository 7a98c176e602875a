-- `flags_of` meets its contract. Assumes nothing.
use Rattle.history.proofs.flags.flags_of.Goals as goal

pub returns : goal.returns
returns c = c.part.ensures
