-- `load_attr` meets its contract. Assumes nothing.
use Rattle.loading.proofs.AttrLaws.{attr_ready, attr_took}
use Rattle.version.proofs.AreaLaws.{lent}
use Rattle.loading.proofs.part.load_attr.Goals as goal

pub load-attr-requires : goal.load-attr-requires
load-attr-requires c = attr_ready _ _ _ _ _ c.requires

pub returns : goal.returns
unfolding lent
returns c = attr_took _ _ _ _ _ c.requires _ _ _ c.load-attr.auto.w c.load-attr.ensures
