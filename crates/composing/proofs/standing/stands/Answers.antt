use Rattle.composing.proofs.StandingLaws.{stands_ways, noted_new, asks_noted, asks_old}
use Rattle.composing.proofs.standing.stands.Goals as goal

pub has_by-before-requires : goal.has_by-before-requires
has_by-before-requires c = asks_old _ _ _ _ _ _ _ _ _ _ c.requires _ c.old_index.ensures

pub fate-requires : goal.fate-requires
fate-requires c = noted_new _ _ _ _ (asks_noted _ _ _ _ _ _ _ _ _ _ c.requires) _ c.new_index.ensures

pub returns-then-flag : goal.returns-then-flag
returns-then-flag c = search stands_ways

pub returns : goal.returns
returns c = search stands_ways
