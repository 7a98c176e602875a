use Rattle.sorting.proofs.IndicesLaws.{reach_dry, reach_wet}
use Rattle.sorting.proofs.limits.reached.Goals as goal

pub returns-then-lim : goal.returns-then-lim
returns-then-lim c = reach_dry _ _ c.if-lim.true

pub returns : goal.returns
returns c = reach_wet _ _ c.if-lim.false
