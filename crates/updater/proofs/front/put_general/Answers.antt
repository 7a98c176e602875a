use Rattle.updater.proofs.FrontLaws.{lies}
use Rattle.updater.proofs.front.put_general.Goals as goal

pub write_merged-requires : goal.write_merged-requires
write_merged-requires c = record { bounded = search lies; ho_value = search lies; hn_in_bounds = search lies }
