use Rattle.updater.proofs.FrontLaws.{carried_ways, carried_wrote}
use Rattle.updater.proofs.front.put_carried.Goals as goal

pub write_record-requires : goal.write_record-requires
write_record-requires c = record { bounded = search carried_ways; h_in_bounds = search carried_ways }

pub returns : goal.returns
returns c = carried_wrote _ _ _ _ _ _ c.write_record.ensures
