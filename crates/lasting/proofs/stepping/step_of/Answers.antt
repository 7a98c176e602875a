use Rattle.lasting.proofs.StepLaws.{step_ways}
use Rattle.lasting.proofs.stepping.step_of.Goals as goal

pub returns-in-None : goal.returns-in-None
returns-in-None c = search step_ways

pub returns-in-Some : goal.returns-in-Some
returns-in-Some c = search step_ways
