-- `answer_of` meets its contract. Assumes nothing.
use Rattle.cable.proofs.ShelfLaws.{answer_ways}
use Rattle.cable.proofs.shelf.answer_of.Goals as goal

pub returns-in-Refused : goal.returns-in-Refused
returns-in-Refused c = search answer_ways

pub returns-in-Silence : goal.returns-in-Silence
returns-in-Silence c = search answer_ways

pub returns-in-Parcel : goal.returns-in-Parcel
returns-in-Parcel c = search answer_ways
