-- `begun` meets its contract. Assumes nothing.
use Rattle.month.proofs.TurnLaws.{begun_so}
use Rattle.month.proofs.turns.begun.Goals as goal

pub returns : goal.returns
returns c = begun_so _ _ c.plain.ensures
