-- `glanced` meets its contract. Assumes nothing.
use Rattle.cable.proofs.GlanceLaws.{glance_ways}
use Rattle.cable.proofs.glance.glanced.Goals as goal

pub second-requires : goal.second-requires
second-requires c = search glance_ways

pub returns-in-Ok : goal.returns-in-Ok
returns-in-Ok c = search glance_ways

pub returns-in-Err : goal.returns-in-Err
returns-in-Err c = search glance_ways
