use Rattle.lasting.proofs.StepLaws.{stays_kept, last_held, last_absent, last_refused}
use Rattle.lasting.proofs.stepping.last_step.Goals as goal

pub held_step-requires : goal.held_step-requires
held_step-requires c = (c.requires.0, stays_kept _ _ _ _ _ c.in-Ok.is _ c.in-Some.is c.requires.1, c.requires.2, c.requires.3)

pub returns-in-Some : goal.returns-in-Some
returns-in-Some c = last_held _ _ _ _ _ _ _ _ _ _ _ _ c.in-Ok.is _ c.in-Some.is c.held_step.ensures

pub returns-in-None : goal.returns-in-None
returns-in-None c = last_absent _ _ _ _ _ _ _ _ _ _ _ _ c.in-Ok.is c.in-None.is

pub returns-in-Err : goal.returns-in-Err
returns-in-Err c = last_refused _ _ _ _ _ _ _ _ _ _ _ _ c.in-Err.is
