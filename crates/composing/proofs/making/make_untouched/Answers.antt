use Rattle.composing.proofs.MadeLaws.{carries_ways}
use Rattle.composing.proofs.making.make_untouched.Goals as goal

pub returns-then-not-passes : goal.returns-then-not-passes
returns-then-not-passes c = search carries_ways

pub returns : goal.returns
returns c = search carries_ways
