use Rattle.skeleton.proofs.DirectoryLaws.{small_ways}
use Rattle.skeleton.proofs.directory.is_small.Goals as goal

pub returns-then-a-ne5 : goal.returns-then-a-ne5
returns-then-a-ne5 c = search small_ways

pub returns-then-b-ne5 : goal.returns-then-b-ne5
returns-then-b-ne5 c = search small_ways

pub returns-then-not-zeros_at : goal.returns-then-not-zeros_at
returns-then-not-zeros_at c = search small_ways

pub returns : goal.returns
returns c = search small_ways
