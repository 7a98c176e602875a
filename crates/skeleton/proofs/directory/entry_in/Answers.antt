use Rattle.skeleton.proofs.DirectoryLaws.{entry_in_ways, entry_field}
use Rattle.skeleton.proofs.directory.entry_in.Goals as goal

pub returns-in_default : goal.returns-in_default
returns-in_default c = search entry_in_ways

pub returns-in_default-number_at : goal.returns-in_default-number_at
returns-in_default-number_at c = search entry_in_ways

pub returns : goal.returns
returns c = entry_field
    _ _ _ _ _
    _ c.number_at.ensures
    _ c.in-Some.is
    _ c.number_at-2.ensures
    _ _ c.in-Some-number_at.is c.tag_at.ensures
