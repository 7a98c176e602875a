-- `flagged` meets its contract. Assumes nothing.
use Rattle.history.proofs.FlagLaws.{flag_there, flag_is}
use Rattle.history.proofs.flags.flagged.Goals as goal

pub flag-requires : goal.flag-requires
flag-requires c = flag_there c.args.work.now _ c.requires c.flags_of.ensures _

pub returns : goal.returns
returns c = flag_is c.args.work.now _ c.flags_of.ensures _ _ c.flag.ensures
