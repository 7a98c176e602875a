use Rattle.records.proofs.TaggedLaws.{coui_ways}
use Rattle.records.proofs.tagged.coui_byte.Goals as goal

pub bounds-r-field : goal.bounds-r-field
bounds-r-field c = search coui_ways

pub returns-then-field : goal.returns-then-field
returns-then-field c = search coui_ways

pub returns-else-field : goal.returns-else-field
returns-else-field c = search coui_ways

pub returns-in_default : goal.returns-in_default
returns-in_default c = search coui_ways
