-- `mark` meets its contract. Assumes nothing.
use Rattle.history.proofs.FlagLaws.{area_marked}
use Rattle.history.proofs.flags.mark.Goals as goal

pub returns : goal.returns
returns c = area_marked c.args.work.now c.requires c.args.key _ c.raise_in.ensures
