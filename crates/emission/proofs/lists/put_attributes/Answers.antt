use Rattle.emission.proofs.ListLaws.{attributes_none, attributes_some}
use Rattle.emission.proofs.ListLaws.{attributes_ways}
use Rattle.emission.proofs.lists.put_attributes.Goals as goal

pub returns-then-size-eq0 : goal.returns-then-size-eq0
returns-then-size-eq0 c = attributes_none _ _ _ _ _ _ _ c.requires.sized.0 c.if-size-eq0.true

pub emit-p-requires : goal.emit-p-requires
emit-p-requires c = record { n_in_bounds = search attributes_ways; room = search attributes_ways }

pub put_byte-requires : goal.put_byte-requires
put_byte-requires c = search attributes_ways

pub returns : goal.returns
returns c = attributes_some _ _ _ _ _ _ _ c.requires.sized.0 _ _ c.emit-p.ensures c.if-size-eq0.false _ _ c.put_byte.ensures
