use Rattle.keys.proofs.SlotLaws.{note_ways}
use Rattle.keys.proofs.slots.note.Goals as goal

pub returns-in-Some : goal.returns-in-Some
returns-in-Some c = search note_ways

pub returns-in_default : goal.returns-in_default
returns-in_default c = search note_ways
