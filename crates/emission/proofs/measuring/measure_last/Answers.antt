use Rattle.emission.proofs.FieldsLaws.{last_measured}
use Rattle.emission.proofs.measuring.measure_last.Goals as goal

pub returns : goal.returns
returns c = last_measured _ c.requires.0 _ _ _ c.list_size.ensures c.list_size-2.ensures
