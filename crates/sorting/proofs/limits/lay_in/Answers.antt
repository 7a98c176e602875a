use Rattle.sorting.proofs.IndicesLaws.{relaid_indexed}
use borrow.Author.Rules.{rules}
use Rattle.sorting.proofs.limits.lay_in.Goals as goal

pub returns : goal.returns
returns c = relaid_indexed c.args.out.now _ _ _ c.requires.1 c.requires.2 (search rules) _ _ _ c.lay.ensures.0 c.lay.ensures.1
