use Rattle.emission.proofs.FieldsLaws.{last_counted}
use Rattle.emission.proofs.measuring.count_last.Goals as goal

pub returns : goal.returns
returns c = last_counted _ c.requires _ _ c.list_count.ensures c.list_count-2.ensures
