use Rattle.references.proofs.VouchLaws.{unmet_vouched}
use borrow.Author.Rules.{rules}
use Rattle.references.proofs.vouching.refill.Goals as goal

pub vouch_all-requires : goal.vouch_all-requires
vouch_all-requires c = (search rules, unmet_vouched _ _ _ _ c.collect.ensures (search rules))
