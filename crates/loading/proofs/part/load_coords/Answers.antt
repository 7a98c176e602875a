-- `load_coords` meets its contract. Assumes nothing.
use Rattle.loading.proofs.CoordLaws.{coords_took}
use Rattle.version.proofs.AreaLaws.{lent}
use Rattle.loading.proofs.part.load_coords.Goals as goal

pub returns : goal.returns
unfolding lent
returns c = coords_took _ _ _ _ _ _ _ c.requires c.put_tuples-coord.auto.l c.put_tuples-coord.ensures
