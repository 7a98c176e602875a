use Rattle.emission.proofs.IdentLaws.{wrote_first}
use Rattle.emission.proofs.IdentLaws.{ident_ways}
use Rattle.emission.proofs.identifier.put_first.Goals as goal

pub put_ident-p-requires : goal.put_ident-p-requires
put_ident-p-requires c = search ident_ways

pub put_byte-requires : goal.put_byte-requires
put_byte-requires c = search ident_ways

pub returns : goal.returns
returns c = wrote_first _ _ _ c.requires _ _ c.put_ident-p.ensures _ _ c.put_byte.ensures
