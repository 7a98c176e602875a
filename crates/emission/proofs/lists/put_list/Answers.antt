use Rattle.emission.proofs.ListLaws.{list_nothing, list_mark, list_written}
use Rattle.emission.proofs.ListLaws.{list_ways}
use Rattle.emission.proofs.lists.put_list.Goals as goal

pub returns-then-n-eq0 : goal.returns-then-n-eq0
returns-then-n-eq0 c = list_nothing _ _ _ _ _ c.if-n-eq0.true

pub put_part-p-requires : goal.put_part-p-requires
put_part-p-requires c = search list_ways

pub put_byte-requires : goal.put_byte-requires
put_byte-requires c = list_mark _ _ _ _ _ _ _ c.put_part-p.ensures c.if-n-eq0.false c.requires.1

pub returns : goal.returns
returns c = list_written _ _ _ _ _ _ _ c.put_part-p.ensures c.if-n-eq0.false c.requires.0 _ _ c.put_byte.ensures
