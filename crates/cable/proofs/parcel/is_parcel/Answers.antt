-- `is_parcel` meets its contract. Assumes nothing.
use Rattle.cable.proofs.ParcelLaws.{parcel_ways}
use Rattle.cable.proofs.parcel.is_parcel.Goals as goal

pub returns-then-not-fronts : goal.returns-then-not-fronts
returns-then-not-fronts c = search parcel_ways

pub le32-requires : goal.le32-requires
le32-requires c = search parcel_ways

pub returns : goal.returns
returns c = search parcel_ways
