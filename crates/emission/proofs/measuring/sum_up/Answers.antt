use Rattle.emission.proofs.FieldsLaws.{summed_up}
use Rattle.emission.proofs.measuring.sum_up.Goals as goal

pub returns : goal.returns
returns c = summed_up _ _ _ _ c.count_fields-fields.ensures c.count_bytes-bytes.ensures
