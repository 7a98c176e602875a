use Rattle.composing.proofs.StandingLaws.{stays_ways, noted_new}
use Rattle.composing.proofs.standing.stays.Goals as goal

pub fate-requires : goal.fate-requires
fate-requires c = noted_new _ _ _ _ c.requires.0 _ c.new_index.ensures

pub returns-then-flag : goal.returns-then-flag
returns-then-flag c = search stays_ways

pub returns : goal.returns
returns c = search stays_ways
