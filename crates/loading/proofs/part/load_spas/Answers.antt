-- `load_spas` meets its contract. Assumes nothing.
use Rattle.loading.proofs.SpasLaws.{spas_ready, spas_took}
use Rattle.version.proofs.AreaLaws.{lent}
use Rattle.loading.proofs.part.load_spas.Goals as goal

pub load_spas-spas-requires : goal.load_spas-spas-requires
load_spas-spas-requires c = spas_ready _ _ _ _ _ c.requires

pub returns : goal.returns
unfolding lent
returns c = spas_took _ _ _ _ _ c.requires _ _ _ c.load_spas-spas.auto.c c.load_spas-spas.ensures
