-- `act_c2it` meets its contract. Assumes nothing.
use mathlib.Core.Path.{◌∙◌}
use Rattle.version.proofs.AreaLaws.{lent}
use Rattle.acting.proofs.WideLaws.{attr_area}
use Rattle.acting.proofs.PartLaws.{point_ready, point_right}
use Rattle.acting.proofs.part.act_c2it.Goals as goal

pub put_tuples-coord-requires : goal.put_tuples-coord-requires
put_tuples-coord-requires c = point_ready _ _ _ _ _ c.requires

pub returns : goal.returns
unfolding lent
returns c = point_right _ _ _ _ _ c.requires _ (c.put_tuples-coord.auto.l ∙ attr_area _ _ _ _ _ _ c.requires) _ c.put_tuples-coord.ensures
