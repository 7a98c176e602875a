use Rattle.composing.proofs.KeptLaws.{made_ways}
use Rattle.lasting.proofs.emitting.make_held.Goals as goal

pub returns-then-not-version_passes : goal.returns-then-not-version_passes
returns-then-not-version_passes c = search made_ways

pub returns : goal.returns
returns c = search made_ways
