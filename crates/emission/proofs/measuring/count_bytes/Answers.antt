use Rattle.emission.proofs.FieldsLaws.{bytes_counted}
use Rattle.emission.proofs.measuring.count_bytes.Goals as goal

pub returns : goal.returns
returns c = bytes_counted _ _ _ _ _ _ _ c.foid_size-foid.ensures c.ident_size.ensures c.list_size.ensures c.list_size-2.ensures c.measure_last.ensures
