use Rattle.items.proofs.ItemLaws.{number_is}
use mathlib.Core.Path.{refl}
use native.Mathlib.Omega.{arith}
use Rattle.items.proofs.item.number.Goals as goal

pub returns : goal.returns
returns c = (number_is _ _ _ _ c.requires c.le16.ensures refl, omega arith)
