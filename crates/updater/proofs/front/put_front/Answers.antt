use Rattle.updater.proofs.FrontLaws.{three_ways, room_third, put_three}
use Rattle.updater.proofs.front.put_front.Goals as goal

pub put_carried-p-requires : goal.put_carried-p-requires
put_carried-p-requires c = search three_ways

pub put_general-q-requires : goal.put_general-q-requires
put_general-q-requires c = record { lies = search three_ways; passed = search three_ways; room = search three_ways }

pub put_carried-requires : goal.put_carried-requires
put_carried-requires c = (c.requires.lies.2, room_third _ _ _ _ c.requires.room _ _ c.put_carried-p.ensures _ _ c.put_general-q.ensures)

pub returns : goal.returns
returns c = put_three _ _ _ _ c.requires.room _ _ c.put_carried-p.ensures _ _ c.put_general-q.ensures _ _ c.put_carried.ensures
