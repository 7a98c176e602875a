-- `load_inas` meets its contract. Assumes nothing.
use Rattle.loading.proofs.InasLaws.{inas_ready, inas_took}
use Rattle.version.proofs.AreaLaws.{lent}
use Rattle.loading.proofs.part.load_inas.Goals as goal

pub load_inas-inas-requires : goal.load_inas-inas-requires
load_inas-inas-requires c = inas_ready _ _ _ _ _ c.requires

pub returns : goal.returns
unfolding lent
returns c = inas_took _ _ _ _ _ c.requires _ _ _ c.load_inas-inas.auto.c c.load_inas-inas.ensures
