use Rattle.emission.proofs.FieldsLaws.{fields_counted}
use Rattle.emission.proofs.measuring.count_fields.Goals as goal

pub returns : goal.returns
returns c = fields_counted _ _ _ _ _ _ c.foid_size-foid.ensures c.list_count.ensures c.list_count-2.ensures c.count_last.ensures
