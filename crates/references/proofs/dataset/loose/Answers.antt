use Rattle.references.proofs.DatasetLaws.{loose_ways}
use Rattle.references.proofs.VouchLaws.{aided_start}
use borrow.Author.Rules.{rules}
use Rattle.references.proofs.dataset.loose.Goals as goal

pub spread-n-requires : goal.spread-n-requires
spread-n-requires c = (search rules, search loose_ways, search loose_ways)

pub every_named-requires : goal.every_named-requires
every_named-requires c = (aided_start _ _ _ _ _ (search rules) (search rules) 7936, search loose_ways)
