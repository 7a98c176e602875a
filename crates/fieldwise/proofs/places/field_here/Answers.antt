use Rattle.fieldwise.proofs.ReaderLaws.{field_ways}
use Rattle.fieldwise.proofs.places.field_here.Goals as goal

pub place_at-requires : goal.place_at-requires
place_at-requires c = search field_ways

pub returns-in-Ok : goal.returns-in-Ok
returns-in-Ok c = search field_ways

pub returns-in-Err : goal.returns-in-Err
returns-in-Err c = search field_ways
