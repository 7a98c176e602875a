-- `fronts` meets its contract. Assumes nothing.
use Rattle.cable.proofs.ParcelLaws.{front_ways}
use Rattle.cable.proofs.parcel.fronts.Goals as goal

pub returns-then-b-lt6 : goal.returns-then-b-lt6
returns-then-b-lt6 c = search front_ways

pub returns-then-n-least : goal.returns-then-n-least
returns-then-n-least c = search front_ways

pub returns-then-b-n : goal.returns-then-b-n
returns-then-b-n c = search front_ways

pub returns : goal.returns
returns c = search front_ways
